-- A grammar is well-formed in one way at most.
use native.Mathlib.Bridge.{le_prop}
use native.Mathlib.Nat.{ℕ_set}
use mathlib.Core.HLevel.{⊥_prop}
use mathlib.Core.Logic.{∥∥₁_prop}
use Rattle.std.proofs.Common.{ℕ, length}
use Rattle.parsing.specs.Grammar.{Grammar, Nonterminal, WellFormed, lhs, rhs, goal}

pub nonterminal_prop : (g : Grammar) (X : ℕ) → IsProp (Nonterminal g X)
nonterminal_prop g X p q = λ i. record {
  low = le_prop p.low q.low i;
  high = le_prop p.high q.high i;
}

pub well_formed_prop : (g : Grammar) → IsProp (WellFormed g)
well_formed_prop g p q = λ i. record {
  two_rules = le_prop p.two_rules q.two_rules i;
  few_rules = le_prop p.few_rules q.few_rules i;
  left_in = λ r h. nonterminal_prop g (lhs g r) (p.left_in r h) (q.left_in r h) i;
  right_in = λ r d h l. le_prop (p.right_in r d h l) (q.right_in r d h l) i;
  short = λ r h. le_prop (p.short r h) (q.short r h) i;
  goal_left = ℕ_set (lhs g 0) (goal g) p.goal_left q.goal_left i;
  goal_right = ℕ_set (length (rhs g 0)) 1 p.goal_right q.goal_right i;
  start_in = nonterminal_prop g _ p.start_in q.start_in i;
  start_goal = λ e. ⊥_prop (p.start_goal e) (q.start_goal e) i;
  goal_once = λ r h e. ℕ_set r 0 (p.goal_once r h e) (q.goal_once r h e) i;
  goal_unused = λ r d h l e. ⊥_prop (p.goal_unused r d h l e) (q.goal_unused r d h l e) i;
  productive = λ X n. ∥∥₁_prop (p.productive X n) (q.productive X n) i;
}
