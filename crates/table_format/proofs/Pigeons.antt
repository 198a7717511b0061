-- Numbers that are apart and below m are at most m.
use Rattle.std.proofs.Common.{◌≡◌, ℕ, zero, suc, ◌-◌, ◌<◌, ◌≤◌, cond, eqb, ◌⊎◌, sym, ◌∙◌, inl, inr, arith}
use Rattle.std.proofs.lemmas.Bool.{cases_eq, eq-eqb, ne_eqb, cond-true, cond-false}

-- The number x, with b in the place of a.
abbrev swapped : ℕ → ℕ → ℕ → ℕ
swapped a b x = cond (eqb x a) b x

swap_is : (a b x : ℕ) → ((x ≡ a) × (swapped a b x ≡ b)) ⊎ ((x ≡ a → ⊥) × (swapped a b x ≡ x))
swap_is a b x =
    elim (cases_eq x a) [
      | inl e ↦ inl (e, cond-true (eqb x a) b x (eq-eqb x a e))
      | inr n ↦ inr (n, cond-false (eqb x a) b x (ne_eqb x a n))
    ]

pub pigeons : (n m : ℕ) (f : (i : ℕ) → i < n → ℕ) → ((i : ℕ) (h : i < n) → f i h < m)
    → ((i j : ℕ) (h : i < n) (k : j < n) → f i h ≡ f j k → i ≡ j) → n ≤ m
pigeons zero m f low apart = omega arith
pigeons (suc n) m f low apart =
    omega (arith, low n last, pigeons n (m - 1) (λ i h. swapped (m - 1) (f n last) (f i (before h))) less distinct)
  where
    last : n < suc n
    last = omega arith

    before : {i : ℕ} → i < n → i < suc n
    before h = omega arith

    less : (i : ℕ) (h : i < n) → swapped (m - 1) (f n last) (f i (before h)) < m - 1
    less i h =
        elim (swap_is (m - 1) (f n last) (f i (before h))) [
          | inl e ↦
              elim (cases_eq (f n last) (m - 1)) [
                | inl q ↦ absurd (omega (arith, apart i n (before h) last (e.0 ∙ sym q)))
                | inr q ↦ omega (arith, low n last, e.1)
              ]
          | inr e ↦ omega (arith, low i (before h), e.0, e.1)
        ]

    distinct : (i j : ℕ) (h : i < n) (k : j < n)
        → swapped (m - 1) (f n last) (f i (before h)) ≡ swapped (m - 1) (f n last) (f j (before k)) → i ≡ j
    distinct i j h k q =
        elim (swap_is (m - 1) (f n last) (f i (before h))) [
          | inl a ↦
              elim (swap_is (m - 1) (f n last) (f j (before k))) [
                | inl b ↦ apart i j (before h) (before k) (a.0 ∙ sym b.0)
                | inr b ↦ absurd (omega (arith, apart n j last (before k) (sym a.1 ∙ q ∙ b.1)))
              ]
          | inr a ↦
              elim (swap_is (m - 1) (f n last) (f j (before k))) [
                | inl b ↦ absurd (omega (arith, apart i n (before h) last (sym a.1 ∙ q ∙ b.1)))
                | inr b ↦ apart i j (before h) (before k) (sym a.1 ∙ q ∙ b.1)
              ]
        ]
