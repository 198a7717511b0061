-- Nodes between marked places.
use Rattle.std.proofs.Common.{◌≡◌, ℕ, ◌≤◌, Bool, true, false, List, sym, refl, subst, arith}
use Rattle.records.specs.declared.node.Node.{Node}
use Rattle.forest.specs.Marks.{Marked, goes}
use Rattle.forest.specs.Parts.{From, Between}
use Rattle.forest.proofs.Rows.{goes_true, goes_false}

module _ (h : ℕ → ℕ → Bool) (x j : ℕ) where
  -- the one node from a to b
  pub is_from : (next : List Bool) (a b : ℕ) → b ≤ j → goes h next a b ≡ true → (z : Node) → z ≡ record { from = a; to = b; symbol = x } → From h next x j a z × (z.to ≡ b)
  is_from next a b l t z q =
      let (mk, e) = goes_true h next a b t in
      subst (λ (y : Node). From h next x j a y × (y.to ≡ b)) (sym q) (record { symbol = refl; from = refl; to = l; fits = e; marked = mk }, refl)

  pub from_is : (next : List Bool) (a b : ℕ) (z : Node) → From h next x j a z → z.to ≡ b → z ≡ record { from = a; to = b; symbol = x }
  from_is next a b z w q = let p = w.from in let s = w.symbol in λ i. record { from = p i; to = q i; symbol = s i }

  pub from_not : (next : List Bool) (a b : ℕ) → goes h next a b ≡ false → (z : Node) → From h next x j a z → z.to ≡ b → ⊥
  from_not next a b f z w q = goes_false h next a b f (subst (λ t. Marked next t) q w.marked) (subst (λ t. h a t ≡ true) q w.fits)

  pub from_between : (before next : List Bool) (i a : ℕ) → i ≤ a → a ≤ j → Marked before a → (z : Node) → From h next x j a z → Between h before next x i j z × (z.from ≡ a)
  from_between before next i a ia aj mk z w =
      let e = w.from in (
        record {
          symbol = w.symbol;
          low = omega arith;
          high = omega arith;
          to = w.to;
          begun = subst (λ t. Marked before t) (sym e) mk;
          fits = subst (λ t. h t z.to ≡ true) (sym e) w.fits;
          marked = w.marked;
        },
        e,
      )

  pub between_from : (before next : List Bool) (i a : ℕ) (z : Node) → Between h before next x i j z → z.from ≡ a → From h next x j a z
  between_from before next i a z w e = record { symbol = w.symbol; from = e; to = w.to; fits = subst (λ t. h t z.to ≡ true) e w.fits; marked = w.marked }
