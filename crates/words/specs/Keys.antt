-- What a key record means.
--   amount_pressed i xs   what an amount key at the place i says, with the bytes xs behind it
--   key_pressed T i t     what the key t at the place i says, for T terminals
--   presses T i k xs      what the presses in the bytes xs say, which stand from the place i on; the first k bytes belong to the press before
--   key_coming T i xs     the words of the bytes xs, which stand from the place i on
use Rattle.std.specs.Prelude.{ℕ, zero, suc, ◌+◌, ◌*◌, cond, List, [], ◌∷◌, Ok, Err, Result, ◌==◌, nat_lt}
use Rattle.grammar.specs.declared.refusal.Refusal.{Refusal}
use Rattle.words.specs.Feeds.{Coming, told}
use Rattle.words.specs.Refusals.{of_feed}
use Rattle.words.specs.declared.word.Word.{Word}

-- An amount key wants two bytes, the high one first, whatever they are.
abbrev pub amount_pressed : ℕ → List ℕ → Result Word Refusal
amount_pressed i [] = Err (of_feed 54 i (i + 1))
amount_pressed i (h ∷ []) = Err (of_feed 54 i (i + 2))
amount_pressed i (h ∷ (l ∷ xs)) = Ok (record { terminal = 0; amount = 256 * h + l; from = i; to = i + 3 })

-- Any other key is a terminal.
abbrev pub key_pressed : ℕ → ℕ → ℕ → Result Word Refusal
key_pressed T i t = cond (nat_lt t T) (Ok (record { terminal = t; amount = 0; from = i; to = i + 1 })) (Err (of_feed 53 i (i + 1)))

-- A press of 255 ends the record, as does the last byte. An amount key has its two bytes behind it.
abbrev pub presses : ℕ → ℕ → ℕ → List ℕ → List (Result Word Refusal)
presses T i k [] = []
presses T i (suc k) (b ∷ xs) = presses T (i + 1) k xs
presses T i zero (b ∷ xs) =
    cond (b == 255) []
    (cond (b == 0) (amount_pressed i xs ∷ presses T (i + 1) 2 xs) (key_pressed T i b ∷ presses T (i + 1) 0 xs))

abbrev pub key_coming : ℕ → ℕ → List ℕ → Coming
key_coming T i xs = told (presses T i 0 xs)
