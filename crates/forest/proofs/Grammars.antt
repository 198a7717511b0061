-- What a source answers of a rule that its grammar has.
use Rattle.std.proofs.Common.{◌≡◌, ℕ, ◌<◌, length, get_or, sym, ◌∙◌, arith}
use Rattle.std.proofs.lemmas.List.{get_or_default}
use Rattle.std.proofs.lemmas.Bool.{cond_below}
use Rattle.parsing.specs.Grammar.{Grammar, WellFormed, rule_count, lhs, rhs, start}
use Rattle.grammar.specs.Questions.{left_side, right_length, right_symbol}

module _ (g : Grammar) (r : ℕ) (h : r < rule_count g) where
  pub left_is : left_side g r ≡ lhs g r
  left_is = sym (cond_below r (rule_count g) (lhs g r) 255 h)

  pub length_is : right_length g r ≡ length (rhs g r)
  length_is = sym (cond_below r (rule_count g) (length (rhs g r)) 255 h)

  pub right_is : (d : ℕ) → d < length (rhs g r) → right_symbol g r d ≡ get_or (rhs g r) d 0
  right_is d l = sym (cond_below r (rule_count g) (get_or (rhs g r) d 255) 255 h) ∙ get_or_default (rhs g r) d 255 0 l

-- The symbol that rule 0 rewrites the goal to.
pub start_is : (g : Grammar) → WellFormed g → (x : ℕ) → x ≡ right_symbol g 0 0 → x ≡ start g
start_is g wf x e =
    let two = wf.two_rules in
    let one = wf.goal_right in
    e ∙ right_is g 0 (omega arith) 0 (omega arith)
