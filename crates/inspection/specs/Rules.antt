-- Rules in readable notation.
--   right_text s xs   the right side xs of a rule of the sheet s
--   rule_text s r     the rule r of the sheet s
--   right_piece s r k   the right symbol k of the rule r, behind a blank
--   if_rule s F r     the text F s r, where r is a rule of the sheet s
use Rattle.std.specs.Prelude.{ℕ, cond, List, [], ◌∷◌, ◌++◌, Some, None, codes, Option, nat_lt}
use Rattle.std.specs.List.{flat_map}
use Rattle.parsing.specs.Grammar.{rule_count, lhs, rhs}
use Rattle.grammar_format.specs.Sheets.{Sheet}
use Rattle.grammar.specs.Questions.{right_symbol}
use Rattle.inspection.specs.Names.{symbol_name}

-- Each symbol stands behind a blank.
abbrev pub behind_blank : Sheet → ℕ → List ℕ
behind_blank s x = codes " " ++ symbol_name s x

unfoldable pub right_text : Sheet → List ℕ → List ℕ
right_text s [] = codes " (nothing)"
right_text s (x ∷ xs) = flat_map (behind_blank s) (x ∷ xs)

abbrev pub rule_text : Sheet → ℕ → List ℕ
rule_text s r = symbol_name s (lhs s.grammar r) ++ (codes " ->" ++ right_text s (rhs s.grammar r))

abbrev pub right_piece : Sheet → ℕ → ℕ → List ℕ
right_piece s r k = behind_blank s (right_symbol s.grammar r k)

abbrev pub if_rule : Sheet → (Sheet → ℕ → List ℕ) → ℕ → Option (List ℕ)
if_rule s F r = cond (nat_lt r (rule_count s.grammar)) (Some (F s r)) None
