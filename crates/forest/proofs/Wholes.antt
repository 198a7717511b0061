-- The alternatives of a node, rule by rule.
use Rattle.std.proofs.Common.{◌≡◌, ℕ, ◌+◌, ◌<◌, ◌≤◌, Bool, ◌⊎◌, sym, ap, ◌∙◌, subst, inl, inr, arith}
use Rattle.std.proofs.lemmas.Bool.{cases_lt}
use Rattle.parsing.specs.Grammar.{Grammar, lhs}
use Rattle.register.specs.Registers.{Grew, Lacks}
use Rattle.records.specs.Registers.{Alternatives}
use Rattle.register.proofs.Growing.{grew_then, grew_as, lacks_then}
use Rattle.records.specs.declared.alternative.Alternative.{Alternative}
use Rattle.records.specs.declared.node.Node.{Node}
use Rattle.forest.specs.Parts.{Whole, Of}

module _ (g : Grammar) (fits : ℕ → ℕ → ℕ → Bool) (y : Node) where
  -- The alternatives by rule r.
  abbrev pub By : ℕ → Alternative → Type 0
  By r = Whole g fits r y.from y.to

  by_rule : (r n : ℕ) → lhs g r ≡ y.symbol → r < n → (z : Alternative) → By r z → Of g fits y n z
  by_rule r n l h z x = record {
    rule_in = let e = x.rule in omega arith;
    left = ap (lhs g) x.rule ∙ l;
    whole = subst (λ t. By t z) (sym x.rule) x;
  }

  more_rules : (r n : ℕ) → r ≤ n → (z : Alternative) → Of g fits y r z → Of g fits y n z
  more_rules r n l z x = record { rule_in = let h = x.rule_in in omega arith; left = x.left; whole = x.whole }

  rule_split : (r : ℕ) (z : Alternative) → Of g fits y (r + 1) z → Of g fits y r z ⊎ (By r z × (lhs g r ≡ y.symbol))
  rule_split r z x =
      elim (cases_lt z.rule r) [
        | inl l ↦ inl (record { rule_in = l; left = x.left; whole = x.whole })
        | inr l ↦
            let k : z.rule ≡ r = (let h = x.rule_in in omega arith) in
            inr (subst (λ t. By t z) k x.whole, ap (lhs g) (sym k) ∙ x.left)
      ]

  pub rule_taken : (a b c : Alternatives) (r : ℕ) → lhs g r ≡ y.symbol
      → Grew (Of g fits y r) a b → Grew (By r) b c → Grew (Of g fits y (r + 1)) a c
  rule_taken a b c r l u v =
      grew_then (Of g fits y r) (By r) (Of g fits y (r + 1)) a b c
      (more_rules r (r + 1) (omega arith)) (by_rule r (r + 1) l (omega arith))
      (λ z x. elim (rule_split r z x) [ inl w ↦ inl w | inr w ↦ inr w.0 ]) u v

  pub rule_passed : (a b : Alternatives) (r : ℕ) → (lhs g r ≡ y.symbol → ⊥)
      → Grew (Of g fits y r) a b → Grew (Of g fits y (r + 1)) a b
  rule_passed a b r l u =
      grew_as (Of g fits y r) (Of g fits y (r + 1)) a b
      (more_rules r (r + 1) (omega arith)) (λ z x. elim (rule_split r z x) [ inl w ↦ w | inr w ↦ absurd (l w.1) ]) u

  pub rule_short : (a b c : Alternatives) (r n : ℕ) → lhs g r ≡ y.symbol → r < n
      → Grew (Of g fits y r) a b → Lacks (By r) b c → Lacks (Of g fits y n) a c
  rule_short a b c r n l rn u v =
      lacks_then (Of g fits y r) (By r) (Of g fits y n) a b c
      (more_rules r n (omega arith)) (by_rule r n l rn) u v
