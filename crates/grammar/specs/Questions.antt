-- What a grammar is asked.
--   left_side g r        the left symbol of the rule r; 255 outside
--   right_length g r     how many right symbols it has; 255 outside
--   right_symbol g r d   its right symbol at d; 255 outside
--   spelled s t          the spelling of the terminal t; none outside
use Rattle.std.specs.Prelude.{ℕ, cond, List, length, Some, None, Option, nat_lt, slice_index_or}
use Rattle.parsing.specs.Grammar.{Grammar, rule_count, lhs, rhs}
use Rattle.grammar_format.specs.Sheets.{Sheet}
use Rattle.grammar_format.specs.Keeping.{spelling_of}

abbrev pub left_side : Grammar → ℕ → ℕ
left_side g r = cond (nat_lt r (rule_count g)) (lhs g r) 255

abbrev pub right_length : Grammar → ℕ → ℕ
right_length g r = cond (nat_lt r (rule_count g)) (length (rhs g r)) 255

abbrev pub right_symbol : Grammar → ℕ → ℕ → ℕ
right_symbol g r d = cond (nat_lt r (rule_count g)) (slice_index_or (rhs g r) d 255) 255

abbrev pub spelled : Sheet → ℕ → Option (List ℕ)
spelled s t = cond (nat_lt t s.grammar.terminals) (Some (spelling_of s t)) None
