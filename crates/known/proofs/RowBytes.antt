-- Rows that are told by their first bytes: where their items are, and that they are 64 bytes.
use Rattle.std.proofs.Common.{◌≡◌, ℕ, zero, suc, ◌-◌, ◌%◌, ◌^◌, ◌<◌, ◌≤◌, Bool, true, ◌&&◌, ltb, leb, List, [], ◌∷◌, ◌++◌, length, get_or, replicate, refl, ap, ◌∙◌, inl, inr, arith, length-append}
use native.Mathlib.Nat.{div-eq_of_lt, zero-div, pow-le-pow_right}
use lib.ListN.{length-replicate}
use Rattle.std.proofs.lemmas.List.{get_or_past}
use Rattle.std.proofs.lemmas.Bool.{and_parts, eqb-true, ltb-true, leb-true, cases_lt}
use Rattle.parsing.specs.Rows.{bit, has, IsRow}
use Rattle.known.specs.Automata.{row_bytes}
use Rattle.known.proofs.Tests.{all_below, at_below}
use Rattle.known.proofs.Completing.{Inside}

-- The bytes past the first ones of a row are 0.
zeros : (n r : ℕ) → get_or {A = ℕ} (replicate n 0) r 0 ≡ 0
zeros zero r = refl
zeros (suc n) zero = refl
zeros (suc n) (suc r) = zeros n r

front_byte : (w : List ℕ) (n r : ℕ) → get_or (w ++ replicate n 0) r 0 ≡ get_or w r 0
front_byte [] n r = zeros n r
front_byte (b ∷ w) n zero = refl
front_byte (b ∷ w) n (suc r) = front_byte w n r

-- A byte has eight bits.
bit_past : (b d : ℕ) → b < 256 → 8 ≤ d → bit b d ≡ 0
bit_past b d h l =
    let p : 2 ^ 8 ≤ 2 ^ d = pow-le-pow_right (omega arith) l in
    let q : b < 2 ^ d = omega arith in
    ap (λ (x : ℕ). x % 2) (div-eq_of_lt q)

-- At most n bytes.
abbrev pub bytes? : ℕ → List ℕ → Bool
bytes? n w = leb (length w) n && all_below (length w) (λ r. ltb (get_or w r 0) 256)

module _ (n : ℕ) (w : List ℕ) (e : bytes? n w ≡ true) where
  short : length w ≤ n
  short = leb-true _ _ (and_parts _ _ e).0

  front_below : (r : ℕ) → get_or (row_bytes w) r 0 < 256
  front_below r =
      rw (front_byte w (64 - length w) r)
      (elim (cases_lt r (length w)) [
        | inl h ↦ ltb-true _ _ (at_below (length w) _ (and_parts _ _ e).1 r h)
        | inr h ↦ rw (get_or_past w r 0 h) (omega arith)
      ])

  pub inside : Inside n (has (row_bytes w))
  inside r d x = (
    elim (cases_lt r (length w)) [
      | inl h ↦ omega (arith, short)
      | inr h ↦
          let zero : get_or (row_bytes w) r 0 ≡ 0 = front_byte w (64 - length w) r ∙ get_or_past w r 0 h in
          absurd (never (ap (λ b. bit b d) zero ∙ ap (λ (b : ℕ). b % 2) (zero-div (2 ^ d))))
    ],
    elim (cases_lt d 8) [ inl h ↦ h | inr h ↦ absurd (never (bit_past (get_or (row_bytes w) r 0) d (front_below r) h)) ],
  )
    where
      never : bit (get_or (row_bytes w) r 0) d ≡ 0 → ⊥
      never z = let o = eqb-true _ _ x in omega arith

  pub is_row : n ≤ 64 → IsRow (row_bytes w)
  is_row h = record {
    count = omega (arith, length-append w (replicate (64 - length w) 0), length-replicate {A = ℕ} (64 - length w) 0, short);
    byte = λ r l. front_below r;
  }
