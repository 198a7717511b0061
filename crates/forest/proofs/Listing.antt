-- The alternatives of one node after another.
use Rattle.std.proofs.Common.{◌≡◌, ℕ, ◌+◌, ◌<◌, ◌≤◌, Bool, ◌⊎◌, List, subst, inl, inr, arith}
use Rattle.std.proofs.lemmas.Bool.{cases_lt}
use Rattle.parsing.specs.Grammar.{Grammar, rule_count}
use Rattle.register.specs.Registers.{Grew, Lacks}
use Rattle.records.specs.Registers.{Alternatives}
use Rattle.register.proofs.Growing.{grew_then, lacks_then}
use Rattle.records.specs.declared.node.Node.{Node}
use Rattle.records.specs.declared.alternative.Alternative.{Alternative}
use Rattle.forest.specs.Parts.{Of}
use Rattle.forest.specs.Finding.{node_of}
use Rattle.forest.specs.Sweeps.{OfSome}

module _ (g : Grammar) (fits : ℕ → ℕ → ℕ → Bool) (us : List Node) where
  abbrev pub OfOne : ℕ → Alternative → Type 0
  OfOne k = Of g fits (node_of us k) (rule_count g)

  some_wider : (k n : ℕ) → k ≤ n → (z : Alternative) → OfSome g fits us k z → OfSome g fits us n z
  some_wider k n l z x = record { index = x.index; index_in = let h = x.index_in in omega arith; of = x.of }

  some_here : (k n : ℕ) → k < n → (z : Alternative) → OfOne k z → OfSome g fits us n z
  some_here k n l z x = record { index = k; index_in = l; of = x }

  some_split : (k : ℕ) (z : Alternative) → OfSome g fits us (k + 1) z → OfSome g fits us k z ⊎ OfOne k z
  some_split k z x = elim (cases_lt x.index k) [
    | inl l ↦ inl (record { index = x.index; index_in = l; of = x.of })
    | inr l ↦
        let e : x.index ≡ k = (let h = x.index_in in omega arith) in
        inr (subst (λ t. OfOne t z) e x.of)
  ]

  pub node_taken : (a b c : Alternatives) (k : ℕ)
      → Grew (OfSome g fits us k) a b → Grew (OfOne k) b c → Grew (OfSome g fits us (k + 1)) a c
  node_taken a b c k u v =
      grew_then (OfSome g fits us k) (OfOne k) (OfSome g fits us (k + 1)) a b c
      (some_wider k (k + 1) (omega arith)) (some_here k (k + 1) (omega arith)) (some_split k) u v

  pub node_short : (a b c : Alternatives) (k n : ℕ) → k < n
      → Grew (OfSome g fits us k) a b → Lacks (OfOne k) b c → Lacks (OfSome g fits us n) a c
  node_short a b c k n l u v =
      lacks_then (OfSome g fits us k) (OfOne k) (OfSome g fits us n) a b c
      (some_wider k n (omega arith)) (some_here k n l) u v
