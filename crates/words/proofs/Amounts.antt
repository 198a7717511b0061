-- Digits, and the amount that they write.
use Rattle.std.proofs.Common.{◌≡◌, ℕ, ◌+◌, ◌-◌, ◌*◌, ◌^◌, ◌<◌, ◌≤◌, true, List, [], ◌∷◌, ◌++◌, length, refl, arith, lit<}
use native.Mathlib.Nat.{pow-le-pow_right}
use Rattle.std.specs.Str.Parse.{digits_value, AllDigits}
use Rattle.std.specs.Char.{digit_value as digitValue}
use Rattle.std.proofs.lemmas.Int.Digits.{digits_value-lt, digits_value_push}
use Rattle.std.proofs.lemmas.Bool.{and_parts}
use Rattle.std.proofs.lemmas.Bool.Decides.{nat_tests}
use Rattle.words.specs.Bytes.{is_digit}
use Rattle.words.specs.Texts.{all_digits}

pub digit_bounds : (b : ℕ) → is_digit b ≡ true → (48 ≤ b) × (b ≤ 57)
unfolding is_digit
digit_bounds b e = grind (arith, nat_tests)

digit_value : (b : ℕ) → 48 ≤ b → b ≤ 57 → digitValue b ≡ b - 48
digit_value b h k = grind (arith, nat_tests)

digit_small : (b : ℕ) → is_digit b ≡ true → digitValue b < 10
digit_small b e = let k = digit_bounds b e in rw (digit_value b k.0 k.1) (omega arith)

-- Of digits, those in front are digits, and so is the next.
pub digits_front : (ys : List ℕ) (b : ℕ) (zs : List ℕ) → all_digits (ys ++ b ∷ zs) ≡ true → (all_digits ys ≡ true) × (is_digit b ≡ true)
digits_front [] b zs e = (refl, (and_parts (is_digit b) (all_digits zs) e).0)
digits_front (y ∷ ys) b zs e =
    let p = and_parts (is_digit y) (all_digits (ys ++ b ∷ zs)) e in
    let k = digits_front ys b zs p.1 in
    (simp (p.0, k.0) refl, k.1)

all_below : (w : List ℕ) → all_digits w ≡ true → AllDigits 10 w
all_below [] e = tt
all_below (b ∷ w) e = let p = and_parts (is_digit b) (all_digits w) e in (digit_small b p.0, all_below w p.1)

-- n digits at most write a number below the power n of ten.
pub value_few : (w : List ℕ) (n : ℕ) → all_digits w ≡ true → length w ≤ n → digits_value 10 w < 10 ^ n
value_few w n e few =
    let less = pow-le-pow_right {n = 10} (lit< tt) {i = length w} {j = n} few in
    omega (arith, digits_value-lt 10 w (all_below w e))

pub value_push : (w : List ℕ) (b : ℕ) → is_digit b ≡ true → digits_value 10 (w ++ b ∷ []) ≡ 10 * digits_value 10 w + (b - 48)
value_push w b e = let k = digit_bounds b e in omega (arith, digits_value_push 10 w b, digit_value b k.0 k.1)
