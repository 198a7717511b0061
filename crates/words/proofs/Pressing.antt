-- The first press of a record, and the presses behind it.
use Rattle.std.proofs.Common.{◌≡◌, ℕ, ◌+◌, ◌-◌, ◌*◌, ◌<◌, ◌≤◌, Bool, true, false, cond, eqb, List, [], ◌∷◌, length, take, drop, Some, Ok, Err, Result, sym, refl, ap, ◌∙◌, subst, arith}
use Rattle.std.proofs.lemmas.List.{drop-drop, take_rest}
use Rattle.std.proofs.lemmas.Bool.{lt-ltb}
use Rattle.grammar.specs.declared.refusal.Refusal.{Refusal}
use Rattle.words.specs.Feeds.{told, Handed}
use Rattle.words.specs.Keys.{key_pressed, presses, key_coming}
use Rattle.words.specs.Presses.{amount_of, press_of}
use Rattle.words.specs.Refusals.{of_feed}
use Rattle.words.specs.declared.press.Press.{Press}
use Rattle.words.specs.declared.press.Press.TheVariants.{Amount, Cut, End, Key}
use Rattle.words.specs.declared.word.Word.{Word}
use Rattle.words.proofs.Handing.{hand_word}

-- What a press says of the record that begins with it.
abbrev pub Pressed : ℕ → ℕ → List ℕ → Press → Type 0
Pressed T i xs (Amount h l) = (3 ≤ length xs) × (presses T i 0 xs ≡ Ok (record { terminal = 0; amount = 256 * h + l; from = i; to = i + 3 }) ∷ presses T (i + 3) 0 (drop 3 xs))
Pressed T i xs Cut = (rs : List (Result Word Refusal)) × (presses T i 0 xs ≡ Err (of_feed 54 i (i + length xs)) ∷ rs)
Pressed T i xs End = presses T i 0 xs ≡ []
Pressed T i xs (Key t) = (1 ≤ length xs) × (presses T i 0 xs ≡ key_pressed T i t ∷ presses T (i + 1) 0 (drop 1 xs))

-- By the two keys that are no terminals of their own.
by_key : (T i t : ℕ) (xs : List ℕ) (a b : Bool) → eqb t 255 ≡ a → eqb t 0 ≡ b → Pressed T i (t ∷ xs) (cond a End (cond b (amount_of xs) (Key t)))
by_key T i t xs true b e f = simp e
by_key T i t [] false true e f = ([], simp (e, f))
by_key T i t (h ∷ []) false true e f = ([], simp (e, f))
by_key T i t (h ∷ (l ∷ xs)) false true e f =
    (omega arith, simp (e, f) (ap (λ j. Ok (record { terminal = 0; amount = 256 * h + l; from = i; to = i + 3 }) ∷ presses T j 0 xs) (omega arith)))
by_key T i t xs false false e f = (omega arith, simp (e, f))

pub pressed : (T i : ℕ) (xs : List ℕ) → Pressed T i xs (press_of xs)
pressed T i [] = refl
pressed T i (t ∷ xs) = by_key T i t xs (eqb t 255) (eqb t 0) refl refl

-- The press k at the place i of a record, and what a key feed answers there.
module _ (T : ℕ) (keys : List ℕ) (i : ℕ) (within : i ≤ length keys) where
  known : (k : Press) → k ≡ press_of (take (length keys - i) (drop i keys)) → Pressed T i (drop i keys) k
  known k e = subst (Pressed T i (drop i keys)) (sym (e ∙ ap press_of (take_rest keys i))) (pressed T i (drop i keys))

  module _ (w : Word) (n : ℕ) (first : presses T i 0 (drop i keys) ≡ Ok w ∷ presses T (i + n) 0 (drop n (drop i keys))) (to : w.to ≡ i + n) where
    word_given : Handed (key_coming T i (drop i keys)) (Ok (Some w)) (key_coming T w.to (drop w.to keys))
    word_given =
        hand_word (key_coming T i (drop i keys)) (key_coming T w.to (drop w.to keys)) w (presses T (i + n) 0 (drop n (drop i keys)))
        (ap told first)
        (ap (λ j. key_coming T j (drop j keys)) to ∙ ap (key_coming T (i + n)) (sym (drop-drop n i keys)))

  module _ (h l : ℕ) (e : Amount h l ≡ press_of (take (length keys - i) (drop i keys))) where
    pub key_amount : (w : Word) → w ≡ record { terminal = 0; amount = 256 * h + l; from = i; to = i + 3 } → Handed (key_coming T i (drop i keys)) (Ok (Some w)) (key_coming T w.to (drop w.to keys))
    key_amount w f = word_given w 3 ((known (Amount h l) e).1 ∙ ap (λ v. Ok v ∷ presses T (i + 3) 0 (drop 3 (drop i keys))) (sym f)) (ap (λ v. v.to) f)

  module _ (t : ℕ) (e : Key t ≡ press_of (take (length keys - i) (drop i keys))) where
    pub key_word : (w : Word) → w ≡ record { terminal = t; amount = 0; from = i; to = i + 1 } → t < T → Handed (key_coming T i (drop i keys)) (Ok (Some w)) (key_coming T w.to (drop w.to keys))
    key_word w f h =
        word_given w 1
        ((known (Key t) e).1 ∙ simp (lt-ltb t T h) (ap (λ v. Ok v ∷ presses T (i + 1) 0 (drop 1 (drop i keys))) (sym f)))
        (ap (λ v. v.to) f)
