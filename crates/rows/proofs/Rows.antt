-- The items of a row and the symbols of a set, as the code tests and sets them.
use Rattle.std.proofs.Common.{◌≡◌, ℕ, ◌*◌, ◌/◌, ◌%◌, ◌^◌, ◌<◌, ◌≤◌, Bool, true, false, eqb, ◌⊎◌, List, length, get_or, set, replicate, Decides, MatchBool, ◌≢◌, w8, w64, refl, sym, ap, ◌∙◌, inl, inr, ⊎_elim, arith}
use native.Mathlib.Decide.{ℕ_discrete}
use lib.Bits.{bit_or}
use Rattle.std.proofs.lemmas.Nat.Bits.{bit_at-zero, bit_at_above, bit_at_set_same, bit_at_set_other, same_from_bits}
use Rattle.std.proofs.lemmas.List.{get_or-set_same, get_or-set_other, get_or_past, get_or-replicate, ext_get_or}
use Rattle.std.proofs.lemmas.Bool.{cases_lt, both_ways}
use Rattle.std.proofs.lemmas.Bool.Decides.{nat_tests}
use Rattle.parsing.specs.Rows.{bit, has}
use Rattle.rows.specs.Changes.{Adds, Joins}
use Rattle.rows.specs.Rows.{items}
use Rattle.rows.specs.declared.row.Row.{Row}

-- Bit d of b, as a test.
abbrev on : ℕ → ℕ → Bool
on b d = eqb (bit b d) 1

pub on_zero : (d : ℕ) → on 0 d ≡ false
on_zero d = ap (λ (x : ℕ). eqb x 1) (bit_at-zero d)

pub on_past : (b n d : ℕ) → b < 2 ^ n → n ≤ d → on b d ≡ false
on_past b n d h l = ap (λ (x : ℕ). eqb x 1) (bit_at_above b n d h l)

-- A bit is told by its test.
same_bit : (a b : ℕ) → eqb (a % 2) 1 ≡ eqb (b % 2) 1 → a % 2 ≡ b % 2
same_bit a b e = grind (arith, nat_tests)

-- A row of zeros has no item.
pub none_in : (r d : ℕ) → has (replicate 64 0) r d ≡ false
none_in r d =
    let z : get_or (replicate 64 0) r 0 ≡ 0 = elim (cases_lt r 64) [ inl l ↦ get_or-replicate 64 r 0 0 l | inr l ↦ get_or_past (replicate 64 0) r 0 l ] in
    ap (λ (b : ℕ). on b d) z ∙ on_zero d

-- No byte of a row has an item past its bits.
pub dot_past : (xs : List ℕ) (r d : ℕ) → get_or xs r 0 < 256 → 8 ≤ d → has xs r d ≡ false
dot_past xs r d h l = on_past (get_or xs r 0) 8 d h l

-- Byte r changed to b, which has bit d and is otherwise as it was: the row has the item (r, d) more.
module _ (xs : List ℕ) (r d b : ℕ) (h : r < length xs) (t : on b d ≡ true) (f : (e : ℕ) → (e ≡ d → ⊥) → on b e ≡ on (get_or xs r 0) e) where
  there : has (set xs r b) r d ≡ true
  there = ap (λ (x : ℕ). on x d) (get_or-set_same xs r b 0 h) ∙ t

  same_dots : (e : ℕ) → (e ≡ d → ⊥) → has (set xs r b) r e ≡ has xs r e
  same_dots e n = ap (λ (x : ℕ). on x e) (get_or-set_same xs r b 0 h) ∙ f e n

  same_or_here : (q e : ℕ) → (has (set xs r b) q e ≡ has xs q e) ⊎ ((q ≡ r) × (e ≡ d))
  same_or_here q e =
      elim (ℕ_discrete q r) [
        | yes p ↦
            elim (ℕ_discrete e d) [
              | yes z ↦ inr (p, z)
              | no n ↦ inl (ap (λ (x : ℕ). has (set xs r b) x e) p ∙ same_dots e n ∙ sym (ap (λ (x : ℕ). has xs x e) p))
            ]
        | no n ↦ inl (ap (λ (x : ℕ). on x e) (get_or-set_other xs r q b 0 n))
      ]

  byte_adds : Adds (has xs) r d (has (set xs r b))
  byte_adds = record {
    kept = λ q e k. ⊎_elim
        (λ p. p ∙ k)
        (λ p. ap (λ (x : ℕ). has (set xs r b) x e) p.0 ∙ ap (λ (y : ℕ). has (set xs r b) r y) p.1 ∙ there)
        (same_or_here q e);
    added = there;
    only = λ q e k. ⊎_elim (λ p. inl (sym p ∙ k)) (λ p. inr p) (same_or_here q e);
  }

pub set_adds : (xs : List ℕ) (r d : ℕ) → r < length xs → d < 8
    → Adds (has xs) r d (has (set xs r (bit_or (get_or xs r 0) ((1 * 2 ^ d) % 256))))
set_adds xs r d h k =
    byte_adds xs r d (bit_or (get_or xs r 0) ((1 * 2 ^ d) % 256)) h
    (ap (λ (x : ℕ). eqb x 1) (bit_at_set_same w8 (get_or xs r 0) d k))
    (λ e n. ap (λ (x : ℕ). eqb x 1) (bit_at_set_other w8 (get_or xs r 0) d k e n))

-- Bit x of a set of symbols set.
module _ (b x : ℕ) (h : x < 64) where
  pub bit_joins : Joins (on b) x (on (bit_or b ((1 * 2 ^ x) % 2 ^ 64)))
  bit_joins = record { kept = keeps; added = λ l. here; only = only }
    where
      here : on (bit_or b ((1 * 2 ^ x) % 2 ^ 64)) x ≡ true
      here = ap (λ (y : ℕ). eqb y 1) (bit_at_set_same w64 b x h)

      others : (X : ℕ) → (X ≡ x → ⊥) → on (bit_or b ((1 * 2 ^ x) % 2 ^ 64)) X ≡ on b X
      others X n = ap (λ (y : ℕ). eqb y 1) (bit_at_set_other w64 b x h X n)

      keeps : (X : ℕ) → on b X ≡ true → on (bit_or b ((1 * 2 ^ x) % 2 ^ 64)) X ≡ true
      keeps X k = elim (ℕ_discrete X x) [ yes e ↦ ap (on (bit_or b ((1 * 2 ^ x) % 2 ^ 64))) e ∙ here | no n ↦ others X n ∙ k ]

      only : (X : ℕ) → on (bit_or b ((1 * 2 ^ x) % 2 ^ 64)) X ≡ true → (on b X ≡ true) ⊎ ((X ≡ x) × (X < 64))
      only X k = elim (ℕ_discrete X x) [ yes e ↦ inr (e, omega arith) | no n ↦ inl (sym (others X n) ∙ k) ]

-- Rows of the same items have the same bytes, and are equal.
same_byte : (a b : ℕ) → ((d : ℕ) → on a d ≡ on b d) → a ≡ b
same_byte a b f = same_from_bits a b (λ d. same_bit (a / 2 ^ d) (b / 2 ^ d) (f d))

pub same_items : (v w : Row) → length v.items ≡ length w.items → items v ≡ items w → v ≡ w
same_items v w l e =
    ap (λ (xs : List ℕ). record { items = xs })
    (ext_get_or 0 v.items w.items l
    (λ k h. same_byte (get_or v.items k 0) (get_or w.items k 0) (λ d. ap (λ (f : ℕ → ℕ → Bool). f k d) e)))

pub same_rows : (v w : Row) (b : Bool) → length v.items ≡ length w.items → Decides b (v.items ≡ w.items) → MatchBool b (items v ≡ items w) (items v ≢ items w)
same_rows v w true l d = ap (λ (xs : List ℕ). has xs) (d.0 refl)
same_rows v w false l d = λ e. both_ways false refl (d.1 (ap (λ (u : Row). u.items) (same_items v w l e)))
