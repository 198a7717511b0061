-- Tests over the numbers below a number and over the entries of a list, and what they tell.
use Rattle.std.proofs.Common.{◌≡◌, ℕ, zero, suc, ◌<◌, Bool, true, false, ◌&&◌, ◌||◌, List, [], ◌∷◌, inl, inr, arith}
use Rattle.std.proofs.lemmas.Bool.{and_parts, or_cases, cases_eq, false≢true}
use Rattle.link_growth.specs.Entries.{Mem, head, tail}

abbrev pub implies : Bool → Bool → Bool
implies true b = b
implies false b = true

pub implied : (a b : Bool) → implies a b ≡ true → a ≡ true → b ≡ true
implied true b e h = e
implied false b e h = absurd (false≢true h)

-- All numbers below n pass, or some does.
abbrev pub all_below : ℕ → (ℕ → Bool) → Bool
all_below zero p = true
all_below (suc n) p = p n && all_below n p

abbrev pub some_below : ℕ → (ℕ → Bool) → Bool
some_below zero p = false
some_below (suc n) p = p n || some_below n p

pub at_below : (n : ℕ) (p : ℕ → Bool) → all_below n p ≡ true → (k : ℕ) → k < n → p k ≡ true
at_below zero p e k h = absurd (omega arith)
at_below (suc n) p e k h =
    let (a, b) = and_parts _ _ e in
    elim (cases_eq k n) [ inl q ↦ rw q a | inr q ↦ at_below n p b k (omega arith) ]

pub found_below : (n : ℕ) (p : ℕ → Bool) → some_below n p ≡ true → (k : ℕ) × (k < n) × (p k ≡ true)
found_below zero p e = absurd (false≢true e)
found_below (suc n) p e =
    elim (or_cases _ _ e) [
      | inl a ↦ (n, omega arith, a)
      | inr b ↦ let (k, h, q) = found_below n p b in (k, omega arith, q)
    ]

-- All entries of a list pass, or some does.
module _ {A : Type 0} (p : A → Bool) where
  abbrev pub all_of : List A → Bool
  all_of [] = true
  all_of (x ∷ xs) = p x && all_of xs

  abbrev pub some_of : List A → Bool
  some_of [] = false
  some_of (x ∷ xs) = p x || some_of xs

  pub at_member : (x : A) (xs : List A) → all_of xs ≡ true → Mem x xs → p x ≡ true
  at_member x [] e m = elim m [ ]
  at_member x (y ∷ ys) e head = (and_parts _ _ e).0
  at_member x (y ∷ ys) e (tail m) = at_member x ys (and_parts _ _ e).1 m

  pub found_member : (xs : List A) → some_of xs ≡ true → (x : A) × Mem x xs × (p x ≡ true)
  found_member [] e = absurd (false≢true e)
  found_member (x ∷ xs) e =
      elim (or_cases _ _ e) [
        | inl a ↦ (x, head, a)
        | inr b ↦ let (y, m, q) = found_member xs b in (y, tail m, q)
      ]
