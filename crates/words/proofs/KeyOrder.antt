-- The words of a key record are sound, and stand in order.
use Rattle.std.proofs.Common.{◌≡◌, ℕ, zero, suc, ◌+◌, ◌<◌, ◌≤◌, Bool, true, false, cond, eqb, ltb, List, [], ◌∷◌, length, IfOk, Result, refl, subst, arith}
use Rattle.std.specs.List.{AllByRecursion}
use Rattle.std.proofs.lemmas.Bool.{ltb-true}
use Rattle.grammar.specs.declared.refusal.Refusal.{Refusal}
use Rattle.words.specs.Keys.{amount_pressed, key_pressed, presses, key_coming}
use Rattle.words.specs.Places.{Sound, Orderly}
use Rattle.words.specs.declared.word.Word.{Word}
use Rattle.words.proofs.Telling.{Row, told_in_order, told_words}

-- One press of some bytes, before other answers that stand behind it.
amount_row : (n i : ℕ) (xs : List ℕ) (rs : List (Result Word Refusal)) → n ≡ i + 1 + length xs → Row n (i + 3) rs → Row n i (amount_pressed i xs ∷ rs)
amount_row n i [] rs e h = record { behind = omega arith; some = omega arith; within = omega arith }
amount_row n i (a ∷ []) rs e h = record { behind = omega arith; some = omega arith; within = omega arith }
amount_row n i (a ∷ (b ∷ xs)) rs e h = (record { behind = omega arith; some = omega arith; within = omega arith }, h)

key_row : (T n i t : ℕ) (a : Bool) (rs : List (Result Word Refusal)) → ltb t T ≡ a → i + 1 ≤ n → Row n (i + 1) rs → Row n i (key_pressed T i t ∷ rs)
key_row T n i t true rs e l h = simp e (record { behind = omega arith; some = omega arith; within = omega arith }, h)
key_row T n i t false rs e l h = simp e (record { behind = omega arith; some = omega arith; within = omega arith })

by_keys : (T i t : ℕ) (xs : List ℕ) (n : ℕ) (a b : Bool) → n ≡ i + 1 + length xs → Row n (i + 3) (presses T (i + 1) 2 xs) → Row n (i + 1) (presses T (i + 1) 0 xs) → Row n i (cond a [] (cond b (amount_pressed i xs ∷ presses T (i + 1) 2 xs) (key_pressed T i t ∷ presses T (i + 1) 0 xs)))
by_keys T i t xs n true b e g h = tt
by_keys T i t xs n false true e g h = amount_row n i xs (presses T (i + 1) 2 xs) e g
by_keys T i t xs n false false e g h = key_row T n i t (ltb t T) (presses T (i + 1) 0 xs) refl (omega arith) h

presses_row : (T i k : ℕ) (xs : List ℕ) (n j : ℕ) → n ≡ i + length xs → j ≡ i + k → Row n j (presses T i k xs)
presses_row T i k [] n j e f = tt
presses_row T i (suc k) (b ∷ xs) n j e f = presses_row T (i + 1) k xs n j (omega arith) (omega arith)
presses_row T i zero (b ∷ xs) n j e f =
    subst (λ m. Row n m (presses T i 0 (b ∷ xs))) (let g : i ≡ j = omega arith in g)
    (by_keys T i b xs n (eqb b 255) (eqb b 0) (omega arith)
    (presses_row T (i + 1) 2 xs n (i + 3) (omega arith) (omega arith))
    (presses_row T (i + 1) 0 xs n (i + 1) (omega arith) (omega arith)))

-- Every word is sound.
abbrev Right : ℕ → Result Word Refusal → Type 0
Right T r = IfOk r (Sound T)

amount_right : (T i : ℕ) (xs : List ℕ) → 1 ≤ T → AllByRecursion (λ b. b < 256) xs → Right T (amount_pressed i xs)
amount_right T i [] k h = tt
amount_right T i (a ∷ []) k h = tt
amount_right T i (a ∷ (b ∷ xs)) k h = record { known = omega arith; plain = λ l. absurd (omega arith); small = omega (arith, h.0, h.1.0) }

key_right : (T i t : ℕ) (a : Bool) → ltb t T ≡ a → Right T (key_pressed T i t)
key_right T i t true e = simp e (record { known = ltb-true t T e; plain = λ _. refl; small = omega arith })
key_right T i t false e = simp e tt

keys_right : (T i t : ℕ) (xs : List ℕ) (a b : Bool) → 1 ≤ T → AllByRecursion (λ c. c < 256) xs → AllByRecursion (Right T) (presses T (i + 1) 2 xs) → AllByRecursion (Right T) (presses T (i + 1) 0 xs) → AllByRecursion (Right T) (cond a [] (cond b (amount_pressed i xs ∷ presses T (i + 1) 2 xs) (key_pressed T i t ∷ presses T (i + 1) 0 xs)))
keys_right T i t xs true b k h f g = tt
keys_right T i t xs false true k h f g = (amount_right T i xs k h, f)
keys_right T i t xs false false k h f g = (key_right T i t (ltb t T) refl, g)

presses_right : (T i k : ℕ) (xs : List ℕ) → 1 ≤ T → AllByRecursion (λ b. b < 256) xs → AllByRecursion (Right T) (presses T i k xs)
presses_right T i k [] l h = tt
presses_right T i (suc k) (b ∷ xs) l h = presses_right T (i + 1) k xs l h.1
presses_right T i zero (b ∷ xs) l h =
    keys_right T i b xs (eqb b 255) (eqb b 0) l h.1 (presses_right T (i + 1) 2 xs l h.1) (presses_right T (i + 1) 0 xs l h.1)

pub keys_orderly : (T : ℕ) (xs : List ℕ) → 1 ≤ T → AllByRecursion (λ b. b < 256) xs → Orderly T (length xs) (key_coming T 0 xs)
keys_orderly T xs l h = record {
  sound = told_words (Sound T) (λ _. Unit {0}) (presses T 0 0 xs) (presses_right T 0 0 xs l h);
  placed = told_in_order (length xs) 0 (presses T 0 0 xs) (presses_row T 0 0 xs (length xs) 0 (omega arith) (omega arith));
}
