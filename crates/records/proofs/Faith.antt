-- The orders of the records tell all records apart.
use Rattle.std.proofs.Common.{◌≡◌, ℕ, ◌==◌, nat_eq, List, [], ◌∷◌, Ordering, Less, Equal, Greater, sym, refl, ap, ◌∙◌, ap₂, arith, eqb-true}
use Rattle.std.specs.Ordering.{is_eq, ordering_then, nat_cmp}
use Rattle.std.specs.Cmp.{unsigned_tied, first_so, second_so}
use Rattle.std.specs.Cmp.Lexicographic.{pointwise, slice_cmp}
use Rattle.register.specs.Lists.{Faithful}
use Rattle.records.specs.OrderLaws.{same_alternative, alternative_ties}
use Rattle.records.specs.Orders.{node_cmp, alternative_cmp}

same_number : (x y : ℕ) → nat_cmp x y ≡ Equal → x ≡ y
same_number x y e = eqb-true x y (sym (unsigned_tied x y) ∙ ap is_eq e)

-- where one order after another answers Equal, both do
both_equal : (a b : Ordering) → ordering_then a b ≡ Equal → (a ≡ Equal) × (b ≡ Equal)
both_equal Less b h = let z : ◌≡◌ {A = ℕ} 0 1 = cc in absurd (omega arith)
both_equal Equal b h = (refl, h)
both_equal Greater b h = let z : ◌≡◌ {A = ℕ} 0 1 = cc in absurd (omega arith)

pub same_list : (xs ys : List ℕ) → slice_cmp nat_cmp xs ys ≡ Equal → xs ≡ ys
same_list [] [] e = refl
same_list [] (y ∷ ys) e = let z : ◌≡◌ {A = ℕ} 0 1 = cc in absurd (omega arith)
same_list (x ∷ xs) [] e = let z : ◌≡◌ {A = ℕ} 0 1 = cc in absurd (omega arith)
same_list (x ∷ xs) (y ∷ ys) e = let (a, b) = both_equal (nat_cmp x y) (slice_cmp nat_cmp xs ys) e in ap₂ ◌∷◌ (same_number x y a) (same_list xs ys b)

pub node_faithful : Faithful node_cmp
node_faithful x y h =
    let (a, bc) = both_equal (nat_cmp x.from y.from) (ordering_then (nat_cmp x.to y.to) (nat_cmp x.symbol y.symbol)) h in
    let (b, c) = both_equal (nat_cmp x.to y.to) (nat_cmp x.symbol y.symbol) bc in
    let p = same_number x.from y.from a in
    let q = same_number x.to y.to b in
    let r = same_number x.symbol y.symbol c in
    λ i. record { from = p i; to = q i; symbol = r i }

pub alternative_faithful : Faithful alternative_cmp
alternative_faithful x y h =
    let t = alternative_ties x y ∙ ap is_eq h in
    same_alternative x y (first_so (x.rule == y.rule) (pointwise nat_eq x.cuts y.cuts) t) (second_so (x.rule == y.rule) (pointwise nat_eq x.cuts y.cuts) t)
