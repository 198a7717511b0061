-- How the symbols of a grammar sheet are called.
--   symbol_name s x   the name of the symbol x of the sheet s
--   called n          a name as text
use Rattle.std.specs.Prelude.{ℕ, cond, List, ◌++◌, codes, decimal, ◌==◌, nat_lt}
use Rattle.parsing.specs.Grammar.{goal, start}
use Rattle.grammar_format.specs.Sheets.{Sheet}
use Rattle.grammar_format.specs.Keeping.{spelling_of}
use Rattle.inspection.specs.declared.name.Name.{Name}
use Rattle.inspection.specs.declared.name.Name.TheVariants.{Amount, Word, Goal, Start, Other}

-- Terminals go by their spelling, but for the amount; nonterminals by their number, but for the goal and the start symbol.
unfoldable pub symbol_name : Sheet → ℕ → List ℕ
symbol_name s x =
    cond (x == 0) (codes "amount")
    (cond (nat_lt x s.grammar.terminals) (spelling_of s x)
    (cond (x == goal s.grammar) (codes "goal")
    (cond (x == start s.grammar) (codes "start") (codes "part-" ++ decimal x))))

abbrev pub called : Name → List ℕ
called Amount = codes "amount"
called (Word w) = w.now
called Goal = codes "goal"
called Start = codes "start"
called (Other x) = codes "part-" ++ decimal x
