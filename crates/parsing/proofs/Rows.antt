-- Numbers and rows are told by their bits.
use Rattle.std.proofs.Common.{◌≡◌, ℕ, zero, suc, ◌/◌, ◌%◌, ◌^◌, ◌<◌, eqb, ◌↔◌, List, length, get_or, sym, ap, ◌∙◌, pow-suc, one-add, arith}
use Rattle.std.proofs.lemmas.Bool.Decides.{nat_tests}
use Rattle.std.proofs.lemmas.Nat.{shr-shr}
use Rattle.std.proofs.lemmas.List.{ext_get_or}
use Rattle.parsing.specs.Rows.{bit, has, IsRow}

-- The bits of half a number are those of the number from bit 1 on.
bit_half : (a d : ℕ) → bit (a / 2) d ≡ bit a (suc d)
bit_half a d = ap (λ x. x % 2) (shr-shr a 1 d) ∙ ap (bit a) (one-add d)

-- Two numbers of n bits are equal where all their bits are.
pub same_bits : (n a b : ℕ) → a < 2 ^ n → b < 2 ^ n → ((d : ℕ) → d < n → bit a d ≡ bit b d) → a ≡ b
same_bits zero a b la lb f = omega arith
same_bits (suc n) a b la lb f =
    let twice = pow-suc 2 n in
    let upper : (d : ℕ) → d < n → bit (a / 2) d ≡ bit (b / 2) d = λ d l. bit_half a d ∙ f (suc d) (omega arith) ∙ sym (bit_half b d) in
    let half = same_bits n (a / 2) (b / 2) (omega arith) (omega arith) upper in
    let low : a / 1 % 2 ≡ b / 1 % 2 = f 0 (omega arith) in
    omega arith

-- A bit is told by the test whether it is 1.
same_bit : (a b : ℕ) → eqb (a % 2) 1 ≡ eqb (b % 2) 1 → a % 2 ≡ b % 2
same_bit a b e = grind (arith, nat_tests)

-- Two rows are equal exactly when all their bits are.
pub rows_by_bits : (v w : List ℕ) → IsRow v → IsRow w → (v ≡ w) ↔ ((r d : ℕ) → r < 64 → d < 8 → has v r d ≡ has w r d)
rows_by_bits v w p q = ((λ e r d h l. ap (λ u. has u r d) e), λ f. ext_get_or 0 v w (p.count ∙ sym q.count) (same f))
  where
    same : ((r d : ℕ) → r < 64 → d < 8 → has v r d ≡ has w r d) → (r : ℕ) → r < length v → get_or v r 0 ≡ get_or w r 0
    same f r l =
        let h : r < 64 = omega (arith, p.count) in
        same_bits 8 (get_or v r 0) (get_or w r 0) (p.byte r h) (q.byte r h) (λ d k. same_bit (get_or v r 0 / 2 ^ d) (get_or w r 0 / 2 ^ d) (f r d h k))
