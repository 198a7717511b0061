-- The first run of a text, and the runs behind it.
use Rattle.std.proofs.Common.{◌≡◌, ℕ, ◌+◌, ◌-◌, ◌<◌, true, false, List, [], ◌∷◌, length, get_or, take, drop, sym, refl, ap, ◌∙◌, inl, inr, add-zero, arith}
use Rattle.std.proofs.lemmas.List.{drop_more, drop-drop}
use Rattle.std.proofs.lemmas.Bool.{cases_Bool}
use Rattle.words.specs.Bytes.{is_blank, opens_remark}
use Rattle.words.specs.Runs.{unremarked, front, begun, runs}
use Rattle.words.proofs.Scanning.{space_blank}

-- The bytes before the first blank or remark.
abbrev pub first_run : List ℕ → List ℕ
first_run xs = front (unremarked false xs)

-- They stand in the text as they are.
pub first_run_taken : (xs : List ℕ) → first_run xs ≡ take (length (first_run xs)) xs
first_run_taken [] = refl
first_run_taken (b ∷ xs) =
    elim (cases_Bool (opens_remark b)) [
      | inl e ↦ simp (e, space_blank)
      | inr e ↦
          elim (cases_Bool (is_blank b)) [
            | inl f ↦ simp (e, f)
            | inr f ↦ simp (e, f) (ap (λ ys. b ∷ ys) (first_run_taken xs))
          ]
    ]

-- Behind them, no run is open.
pub runs_behind : (i : ℕ) (xs : List ℕ) → begun i true (unremarked false xs) ≡ runs (i + length (first_run xs)) (drop (length (first_run xs)) xs)
runs_behind i [] = refl
runs_behind i (b ∷ xs) =
    elim (cases_Bool (opens_remark b)) [
      | inl e ↦ simp (e, space_blank, add-zero)
      | inr e ↦
          elim (cases_Bool (is_blank b)) [
            | inl f ↦ simp (e, f, add-zero)
            | inr f ↦ simp (e, f) (runs_behind (i + 1) xs ∙ ap (λ n. runs n (drop (length (first_run xs)) xs)) (omega arith))
          ]
    ]

module _ (xs : List ℕ) (i : ℕ) (inside : i < length xs) (no_blank : is_blank (get_or xs i 0) ≡ false) (no_hash : opens_remark (get_or xs i 0) ≡ false) where
  -- The byte at i begins a run, of this byte and those behind it.
  first_run_more : first_run (drop i xs) ≡ get_or xs i 0 ∷ first_run (drop (i + 1) xs)
  first_run_more = ap first_run (drop_more xs i 0 inside) ∙ simp (no_hash, no_blank)

  begins : runs i (drop i xs) ≡ record { from = i; bytes = get_or xs i 0 ∷ first_run (drop (i + 1) xs) } ∷ begun (i + 1) true (unremarked false (drop (i + 1) xs))
  begins = ap (runs i) (drop_more xs i 0 inside) ∙ simp (no_hash, no_blank)

  module _ (j : ℕ) (ends : j ≡ i + length (first_run (drop i xs))) where
    run_bytes : get_or xs i 0 ∷ first_run (drop (i + 1) xs) ≡ take (j - i) (drop i xs)
    run_bytes = sym first_run_more ∙ first_run_taken (drop i xs) ∙ ap (λ n. take n (drop i xs)) (omega arith)

    behind : begun (i + 1) true (unremarked false (drop (i + 1) xs)) ≡ runs j (drop j xs)
    behind =
        let n = length (first_run (drop (i + 1) xs)) in
        let at : i + 1 + n ≡ j = omega (arith, ap length first_run_more) in
        runs_behind (i + 1) (drop (i + 1) xs) ∙ ap (runs (i + 1 + n)) (drop-drop n (i + 1) xs) ∙ ap (λ k. runs k (drop k xs)) at

    pub runs_first : runs i (drop i xs) ≡ record { from = i; bytes = take (j - i) (drop i xs) } ∷ runs j (drop j xs)
    runs_first = begins ∙ (λ k. record { from = i; bytes = run_bytes k } ∷ behind k)
