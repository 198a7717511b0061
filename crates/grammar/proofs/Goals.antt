-- How a rule as it is held uses the goal.
use Rattle.std.proofs.Common.{◌≡◌, ℕ, ◌+◌, ◌-◌, ◌<◌, Bool, true, false, ◌≢◌, length, get_or, replicate, MatchBool, sym, ◌∙◌, arith}
use Rattle.std.proofs.lemmas.List.{get_or-drop, get_or_append_left}
use Rattle.parsing.specs.Grammar.{Rule}
use Rattle.grammar_format.specs.Breaches.{GoalMisused, within}
use Rattle.grammar_format.specs.Sheets.{rule_bytes}

-- The right symbols stand behind the first two bytes.
pub block_right : (p : Rule) (d : ℕ) → d < length p.right → get_or (rule_bytes p) (2 + d) 0 ≡ get_or p.right d 0
block_right p d h =
    sym (get_or-drop 2 (rule_bytes p) d 0) ∙ get_or_append_left p.right (replicate (7 - length p.right) 255) 0 d h

-- A rule other than rule 0, with another left symbol, misuses the goal exactly when the goal stands on its right side.
pub later_rule : (goal r : ℕ) (p : Rule) (b : Bool) → 0 < r → p.left ≢ goal
    → MatchBool b ((d : ℕ) × (d < length p.right) × (get_or p.right d 0 ≡ goal)) ((d : ℕ) → d < length p.right → get_or p.right d 0 ≡ goal → ⊥)
    → MatchBool b (GoalMisused goal r (rule_bytes p)) (GoalMisused goal r (rule_bytes p) → ⊥)
later_rule goal r p true h n (d, l, e) = within d h l (block_right p d l ∙ e)
later_rule goal r p false h n f = none
  where
    none : GoalMisused goal r (rule_bytes p) → ⊥
    none (GoalMisused.other_left z m) = omega arith
    none (GoalMisused.other_length z m) = omega arith
    none (GoalMisused.no_start z m) = omega arith
    none (GoalMisused.again k e) = n e
    none (GoalMisused.within d k l e) = f d l (sym (block_right p d l) ∙ e)
