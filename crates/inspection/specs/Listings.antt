-- All that a grammar sheet says, as text.
--   indent n            the blanks before a number that is shown in three places
--   symbol_line s x     a line for the symbol x of the sheet s: its number and its name
--   rule_line s r       a line for the rule r of the sheet s: its number and its text
--   lines F low n       the lines F low, F (low + 1) and so on, n of them
--   listing s           the counts, the symbols and the rules of the sheet s
use Rattle.std.specs.Prelude.{ℕ, cond, List, [], ◌++◌, codes, decimal, nat_lt}
use Rattle.parsing.specs.Grammar.{rule_count}
use Rattle.grammar_format.specs.Sheets.{Sheet}
use Rattle.inspection.specs.Names.{symbol_name}
use Rattle.inspection.specs.Pieces.{each}
use Rattle.inspection.specs.Rules.{rule_text}

abbrev pub indent : ℕ → List ℕ
indent n = cond (nat_lt n 10) (codes "  ") (cond (nat_lt n 100) (codes " ") [])

abbrev pub symbol_line : Sheet → ℕ → List ℕ
symbol_line s x = indent x ++ (decimal x ++ (codes "  " ++ symbol_name s x))

abbrev pub rule_line : Sheet → ℕ → List ℕ
rule_line s r = indent r ++ (decimal r ++ (codes "  " ++ rule_text s r))

abbrev pub lines : (ℕ → List ℕ) → ℕ → ℕ → List ℕ
lines F low n = each (λ k. F k ++ codes "\n") low n

abbrev pub lines_of_rules : Sheet → List ℕ
lines_of_rules s = lines (rule_line s) 0 (rule_count s.grammar)

abbrev pub listing : Sheet → List ℕ
listing s =
    codes "terminals: " ++ (decimal s.grammar.terminals ++ (codes "\n" ++ (lines (symbol_line s) 0 s.grammar.terminals
    ++ (codes "nonterminals: " ++ (decimal s.grammar.nonterminals ++ (codes "\n" ++ (lines (symbol_line s) s.grammar.terminals s.grammar.nonterminals
    ++ (codes "rules: " ++ (decimal (rule_count s.grammar) ++ (codes "\n" ++ lines_of_rules s))))))))))
