-- How a grammar is held: its rules and its spellings in lists of fixed size.
--   rewriting p            the rule of the grammar that p stands for
--   rule_at ps r           that of the rule r of those held, a rule of nothing past the end
--   rule_block p           the nine bytes of the rule p
--   block_at ps r          those of the rule r of those held
--   words ws               the bytes of the spellings ws
--   spelling_piece w       the bytes of the spelling w in a sheet
--   grammar_from T N ps    the grammar of T terminals, N nonterminals and these rules
--   sheet_from T N ps ws   the sheet of that grammar with these spellings
--   Held N ps ws           with N nonterminals, that sheet keeps the rules
use Rattle.std.specs.Prelude.{ℕ, List, [], map, slice_index_or}
use Rattle.parsing.specs.Grammar.{Grammar, Rule as Rewriting}
use Rattle.grammar_format.specs.Sheets.{Sheet, rule_bytes, spelling_bytes}
use Rattle.grammar_format.specs.Keeping.{Keeps}
use Rattle.grammar.specs.Lists.{items}
use Rattle.grammar.specs.declared.few.Few.{Few}
use Rattle.grammar.specs.declared.rule.Rule.{Rule}

abbrev pub rewriting : Rule → Rewriting
rewriting p = record { left = p.left; right = items p.right }

abbrev pub rule_at : List Rule → ℕ → Rewriting
rule_at ps r = slice_index_or (map rewriting ps) r (record { left = 0; right = [] })

abbrev pub rule_block : Rule → List ℕ
rule_block p = rule_bytes (rewriting p)

abbrev pub block_at : List Rule → ℕ → List ℕ
block_at ps r = slice_index_or (map rule_block ps) r []

abbrev pub words : List (Few ℕ 12) → List (List ℕ)
words ws = map items ws

-- Its length, then its bytes.
abbrev pub spelling_piece : Few ℕ 12 → List ℕ
spelling_piece w = spelling_bytes (items w)

abbrev pub grammar_from : ℕ → ℕ → List Rule → Grammar
grammar_from T N ps = record { terminals = T; nonterminals = N; rules = map rewriting ps }

abbrev pub sheet_from : ℕ → ℕ → List Rule → List (Few ℕ 12) → Sheet
sheet_from T N ps ws = record { grammar = grammar_from T N ps; spellings = words ws }

-- What a grammar holds keeps all the rules of sheets.
pub record Held (N : ℕ) (ps : Few Rule 64) (ws : Few (Few ℕ 12) 40) : Type 0 where
  pub kept : Keeps (sheet_from ws.count N (items ps) (items ws))
