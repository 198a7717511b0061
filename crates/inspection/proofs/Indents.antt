-- A number that is shown in three places.
use Rattle.std.proofs.Common.{◌≡◌, ℕ, ◌+◌, ◌-◌, ◌/◌, ◌%◌, ◌^◌, ◌<◌, ◌≤◌, false, List, [], ◌∷◌, ◌++◌, length, codes, decimal, ap, ◌∙◌, arith}
use native.Mathlib.Decide.{dec_lt}
use Rattle.std.specs.Fmt.{padded_integral, char_count, format_spec}
use Rattle.std.proofs.Math.Utf8.{encode}
use Rattle.std.proofs.lemmas.Bool.Decides.{nat_tests}
use Rattle.std.proofs.lemmas.Fmt.{decimal_digit, decimal_step, decimal_nonempty}
use Rattle.std.proofs.lemmas.List.{length-append, append-nil}
use Rattle.inspection.specs.Listings.{indent}

abbrev pub in_three : List ℕ → List ℕ
in_three ds = padded_integral (format_spec 32 3 0 3 (2 ^ 64 - 1)) false [] ds

module _ (ds : List ℕ) where
  two_blanks : length ds ≡ 1 → in_three ds ≡ codes "  " ++ ds
  unfolding padded_integral char_count encode
  two_blanks e = rw e (ap (λ x. codes "  " ++ x) (append-nil ds))

  one_blank : length ds ≡ 2 → in_three ds ≡ codes " " ++ ds
  unfolding padded_integral char_count encode
  one_blank e = rw e (ap (λ x. codes " " ++ x) (append-nil ds))

  no_blank : 3 ≤ length ds → in_three ds ≡ ds
  unfolding padded_integral char_count encode
  no_blank h = let e : 3 - length ds ≡ 0 = omega arith in rw e (append-nil ds)

size : (n : ℕ) → 10 ≤ n → n < 2 ^ 64 → length (decimal n) ≡ length (decimal (n / 10)) + 1
size n l h = ap length (decimal_step n l h) ∙ length-append (decimal (n / 10)) ((48 + n % 10) ∷ [])

size_one : (n : ℕ) → n < 10 → length (decimal n) ≡ 1
size_one n h = ap length (decimal_digit n h)

blanks_are : (n : ℕ) (ds : List ℕ) → (n < 10 → length ds ≡ 1) → (10 ≤ n → n < 100 → length ds ≡ 2) → (100 ≤ n → 3 ≤ length ds)
    → in_three ds ≡ indent n ++ ds
blanks_are n ds one two more =
    elim (dec_lt n 10) [
      | yes l ↦ let e = two_blanks ds (one l) in grind (arith, nat_tests)
      | no l ↦
          elim (dec_lt n 100) [
            | yes m ↦ let e = one_blank ds (two (omega arith) m) in grind (arith, nat_tests)
            | no m ↦ let e = no_blank ds (more (omega arith)) in grind (arith, nat_tests)
          ]
    ]

pub indented : (n : ℕ) → n < 2 ^ 64 → in_three (decimal n) ≡ indent n ++ decimal n
indented n h =
    blanks_are n (decimal n) (size_one n) (λ l m. size n l h ∙ ap (λ k. k + 1) (size_one (n / 10) (omega arith)))
    (λ l. omega (arith, size n (omega arith) h, size (n / 10) (omega arith) (omega arith), decimal_nonempty (n / 10 / 10) (omega arith)))
