-- A list in order stays so when a record is inserted in its place.
use Rattle.std.proofs.Common.{◌≡◌, ℕ, ◌+◌, ◌-◌, ◌<◌, ◌≤◌, List, length, get_or, Ordering, Less, Equal, Greater, sym, ap, ◌∙◌, subst, ap₂, inl, inr, arith}
use Rattle.std.specs.Cmp.{IsTotalOrder}
use Rattle.std.specs.List.{insert}
use Rattle.std.specs.Ordering.{is_lt, ordering_index, ordering_reverse}
use Rattle.std.specs.List.Sorted.{IsNonDecreasingBy, IsPartitionPoint}
use Rattle.std.proofs.lemmas.List.Edits.{length-insert, get_or-insert_below, get_or-insert_at, get_or-insert_above}
use Rattle.std.proofs.lemmas.List.Sorted.{searchable_from_sorted}
use Rattle.std.proofs.lemmas.Bool.{cases_order, cases_lt}
use Rattle.register.specs.Lists.{Climbs}

module _ {X : Type 0} {R : X → X → Ordering} (o : IsTotalOrder R) where
  -- What a binary search for x asks.
  pub rises_from_climbs : (xs : List X) (x : X) → Climbs R xs → IsNonDecreasingBy (λ y. ordering_index (R y x)) xs
  rises_from_climbs xs x up =
      searchable_from_sorted o (λ y. y) xs x
      (λ k d h l. ap is_lt (o.antisymm (get_or xs (k + 1) d) (get_or xs k d) ∙ ap ordering_reverse (up k (k + 1) d (omega arith) l)))

  -- The records of xs are below x before the place i, and above it from there on.
  abbrev pub PartedAt : List X → X → ℕ → Type 0
  PartedAt xs x i = IsPartitionPoint (λ y. R y x ≡ Less) (λ y. R y x ≡ Greater) xs i

  module _ (xs : List X) (i : ℕ) (x : X) (hi : i ≤ length xs) where
    past : (b : ℕ) (d : X) → i < b → get_or (insert xs i x) b d ≡ get_or xs (b - 1) d
    past b d l =
        let e : b - 1 + 1 ≡ b = omega arith in
        let P : ℕ → Type 0 = λ t. get_or (insert xs i x) t d ≡ get_or xs (b - 1) d in
        subst P e (get_or-insert_above xs i x d (b - 1) (omega arith) hi)

    here : (b : ℕ) (d : X) → b ≡ i → get_or (insert xs i x) b d ≡ x
    here b d e =
        let P : ℕ → Type 0 = λ t. get_or (insert xs i x) t d ≡ x in
        subst P (sym e) (get_or-insert_at xs i x d hi)

    pub climbs_inserted : Climbs R xs → PartedAt xs x i → Climbs R (insert xs i x)
    climbs_inserted up (low, high) a b d ab bl =
        let n = length-insert xs i x hi in
        elim (cases_order b i) [
          | inl e ↦ ap₂ R (get_or-insert_below xs i x d a (omega arith) hi) (here b d e) ∙ low a d (omega arith) (omega arith)
          | inr (inl l) ↦ ap₂ R (get_or-insert_below xs i x d a (omega arith) hi) (get_or-insert_below xs i x d b l hi) ∙ up a b d ab (omega arith)
          | inr (inr l) ↦
              elim (cases_order a i) [
                | inl e ↦ ap₂ R (here a d e) (past b d l) ∙ o.antisymm x (get_or xs (b - 1) d) ∙ ap ordering_reverse (high (b - 1) d (omega arith) (omega arith))
                | inr (inl s) ↦ ap₂ R (get_or-insert_below xs i x d a s hi) (past b d l) ∙ up a (b - 1) d (omega arith) (omega arith)
                | inr (inr s) ↦ ap₂ R (past a d s) (past b d l) ∙ up (a - 1) (b - 1) d (omega arith) (omega arith)
              ]
        ]

  -- A record that is equal to x is neither below nor above it.
  pub not_there : (xs : List X) (x : X) (i : ℕ) → PartedAt xs x i → (k : ℕ) (d : X) → k < length xs → R (get_or xs k d) x ≡ Equal → ⊥
  not_there xs x i h k d l e =
      elim (cases_lt k i) [
        | inl b ↦ let p = h.0 k d (omega arith) b in let z : ◌≡◌ {A = ℕ} 0 1 = cc in omega arith
        | inr b ↦ let p = h.1 k d b l in let z : ◌≡◌ {A = ℕ} 0 1 = cc in omega arith
      ]
