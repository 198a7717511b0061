-- What the words and the refusal of a key record say of its bytes.
--   Stands xs i bs      the bytes bs stand in xs from the place i on
--   Pressed T xs i w    the word w of T terminals is what the record xs has at i: an amount in three bytes, or a terminal in one
--   Broken T xs i x     the refusal x is right of the record xs at i: a key that is no terminal, or an amount that is cut
--   Over xs i           the record xs has no more at i: a press of 255, or its end
--   Keyed T xs i ws x   the words ws, and then the refusal x or the end, stand in xs one right behind the other from the place i on
--   Recorded T xs c     what is coming as c is the whole record xs
--   OneRecording        the theorem that nothing else is
use Rattle.std.specs.Prelude.{◌≡◌, ◌≢◌, ℕ, ◌+◌, ◌*◌, ◌<◌, ◌≤◌, ◌⊎◌, List, [], ◌∷◌, length, take, drop, Some, None, Option}
use Rattle.grammar.specs.declared.refusal.Refusal.{Refusal}
use Rattle.words.specs.Feeds.{Coming}
use Rattle.words.specs.Refusals.{of_feed}
use Rattle.words.specs.declared.word.Word.{Word}

abbrev pub Stands : List ℕ → ℕ → List ℕ → Type 0
Stands xs i bs = take (length bs) (drop i xs) ≡ bs

pub data Pressed (T : ℕ) (xs : List ℕ) (i : ℕ) (w : Word) : Type 0 where
  amount : (high low : ℕ) → Stands xs i (0 ∷ (high ∷ (low ∷ [])))
      → w ≡ record { terminal = 0; amount = 256 * high + low; from = i; to = i + 3 } → Pressed T xs i w
  terminal : (t : ℕ) → Stands xs i (t ∷ []) → t ≢ 0 → t ≢ 255 → t < T
      → w ≡ record { terminal = t; amount = 0; from = i; to = i + 1 } → Pressed T xs i w

pub data Broken (T : ℕ) (xs : List ℕ) (i : ℕ) (x : Refusal) : Type 0 where
  unknown : (t : ℕ) → Stands xs i (t ∷ []) → t ≢ 0 → t ≢ 255 → T ≤ t → x ≡ of_feed 53 i (i + 1) → Broken T xs i x
  cut : Stands xs i (0 ∷ []) → length xs < i + 3 → x ≡ of_feed 54 i (length xs) → Broken T xs i x

abbrev pub Over : List ℕ → ℕ → Type 0
Over xs i = (i ≡ length xs) ⊎ Stands xs i (255 ∷ [])

abbrev pub Keyed : ℕ → List ℕ → ℕ → List Word → Option Refusal → Type 0
Keyed T xs i [] None = Over xs i
Keyed T xs i [] (Some x) = Broken T xs i x
Keyed T xs i (w ∷ ws) x = Pressed T xs i w × Keyed T xs w.to ws x

abbrev pub Recorded : ℕ → List ℕ → Coming → Type 0
Recorded T xs c = Keyed T xs 0 c.words c.fault

abbrev pub OneRecording : Type 0
OneRecording = (T : ℕ) (xs : List ℕ) (c d : Coming) → Recorded T xs c → Recorded T xs d → c ≡ d
