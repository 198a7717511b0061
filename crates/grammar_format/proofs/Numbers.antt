-- Numbers of 16 bits, and the header, which is six of them.
use Rattle.std.proofs.Common.{◌≡◌, ℕ, ◌+◌, ◌*◌, ◌/◌, ◌%◌, ◌<◌, ◌≤◌, List, [], ◌∷◌, ◌++◌, length, get_or, drop, sym, refl, ap, ◌∙◌, arith}
use Rattle.std.proofs.lemmas.List.{drop_more}
use Rattle.grammar_format.specs.Sheets.{wide}
use Rattle.grammar_format.specs.Fields.{number}

pub wide_number : (b : List ℕ) (o : ℕ) → get_or b (o + 1) 0 < 256 → wide (number b o) ≡ get_or b o 0 ∷ (get_or b (o + 1) 0 ∷ [])
unfolding number
wide_number b o h =
    let p : (get_or b o 0 * 256 + get_or b (o + 1) 0) / 256 ≡ get_or b o 0 = omega arith in
    let q : (get_or b o 0 * 256 + get_or b (o + 1) 0) % 256 ≡ get_or b (o + 1) 0 = omega arith in
    rw (p, q) refl

-- The number that two bytes say is below 2 ^ 16.
pub number_small : (b : List ℕ) (o : ℕ) → get_or b o 0 < 256 → get_or b (o + 1) 0 < 256 → number b o < 65536
unfolding number
number_small b o h l = omega arith

-- The bytes from the offset o on: a number, and those from o + 2 on.
pub number_drop : (b : List ℕ) (o : ℕ) → get_or b (o + 1) 0 < 256 → o + 2 ≤ length b → wide (number b o) ++ drop (o + 2) b ≡ drop o b
number_drop b o h l =
    let e : (o + 1) + 1 ≡ o + 2 = omega arith in
    ap (λ w. w ++ drop (o + 2) b) (wide_number b o h)
    ∙ sym (drop_more b o 0 (omega arith) ∙ ap (λ x. get_or b o 0 ∷ x) (drop_more b (o + 1) 0 (omega arith) ∙ ap (λ n. get_or b (o + 1) 0 ∷ drop n b) e))

-- Six numbers, as the header has them.
abbrev pub six : ℕ → ℕ → ℕ → ℕ → ℕ → ℕ → List ℕ
six a b c d e f = wide a ++ (wide b ++ (wide c ++ (wide d ++ (wide e ++ wide f))))

-- The numbers at the offsets 0 to 10 are the first twelve bytes.
pub six_drop : (b : List ℕ) → ((k : ℕ) → get_or b k 0 < 256) → 12 ≤ length b
    → six (number b 0) (number b 2) (number b 4) (number b 6) (number b 8) (number b 10) ++ drop 12 b ≡ b
six_drop b s l =
    rw (
      number_drop b 10 (s 11) (omega arith),
      number_drop b 8 (s 9) (omega arith),
      number_drop b 6 (s 7) (omega arith),
      number_drop b 4 (s 5) (omega arith),
      number_drop b 2 (s 3) (omega arith),
      number_drop b 0 (s 1) (omega arith),
    )

-- The numbers read off a list that begins with six.
module _ (n₀ n₁ n₂ n₃ n₄ n₅ : ℕ) (xs : List ℕ) where
  pub six_0 : number (six n₀ n₁ n₂ n₃ n₄ n₅ ++ xs) 0 ≡ n₀
  unfolding number
  six_0 = omega arith

  pub six_2 : number (six n₀ n₁ n₂ n₃ n₄ n₅ ++ xs) 2 ≡ n₁
  unfolding number
  six_2 = omega arith

  pub six_4 : number (six n₀ n₁ n₂ n₃ n₄ n₅ ++ xs) 4 ≡ n₂
  unfolding number
  six_4 = omega arith

  pub six_6 : number (six n₀ n₁ n₂ n₃ n₄ n₅ ++ xs) 6 ≡ n₃
  unfolding number
  six_6 = omega arith

  pub six_8 : number (six n₀ n₁ n₂ n₃ n₄ n₅ ++ xs) 8 ≡ n₄
  unfolding number
  six_8 = omega arith

  pub six_10 : number (six n₀ n₁ n₂ n₃ n₄ n₅ ++ xs) 10 ≡ n₅
  unfolding number
  six_10 = omega arith
