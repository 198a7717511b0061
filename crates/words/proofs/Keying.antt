-- What is coming from a key record is the whole record, and nothing else is.
use Rattle.std.proofs.Common.{◌≡◌, ◌≢◌, ℕ, zero, suc, ◌+◌, ◌-◌, ◌*◌, ◌<◌, ◌≤◌, Bool, true, false, cond, eqb, ltb, List, [], ◌∷◌, ◌++◌, length, take, drop, Some, None, Option, Result, sym, refl, ap, ◌∙◌, subst, inl, inr, arith}
use Rattle.std.proofs.lemmas.List.{length-drop, drop-drop, drop_all, take-append-drop}
use Rattle.std.proofs.lemmas.Bool.{eqb-true, eqb-false, ltb-true, ltb-false, lt-ltb, cases_Bool}
use Rattle.grammar.specs.declared.refusal.Refusal.{Refusal}
use Rattle.words.specs.Feeds.{Coming, told}
use Rattle.words.specs.Keys.{amount_pressed, key_pressed, presses, key_coming}
use Rattle.words.specs.Pressed.{Stands, Pressed, Broken, Keyed, Recorded, OneRecording}
use Rattle.words.specs.Pressed.Pressed.{amount, terminal}
use Rattle.words.specs.Pressed.Broken.{unknown, cut}
use Rattle.words.specs.Refusals.{of_feed}
use Rattle.words.specs.declared.word.Word.{Word}

module _ (T : ℕ) (keys : List ℕ) where
  -- The words that some answers tell, and their end, stand in the record from the place i on.
  abbrev Telling : ℕ → List (Result Word Refusal) → Type 0
  Telling i rs = Keyed T keys i (told rs).words (told rs).fault

  -- The bytes that are left at the place i.
  size : (i : ℕ) (xs : List ℕ) → drop i keys ≡ xs → length xs ≡ length keys - i
  size i xs e = sym (ap length e) ∙ length-drop i keys

  amount_told : (i : ℕ) (xs : List ℕ) → drop i keys ≡ 0 ∷ xs → (2 ≤ length xs → Telling (i + 3) (presses T (i + 1) 2 xs)) → Telling i (amount_pressed i xs ∷ presses T (i + 1) 2 xs)
  amount_told i [] e g =
      let n = size i (0 ∷ []) e in
      cut (ap (take 1) e) (omega arith) (ap (of_feed 54 i) (omega arith))
  amount_told i (h ∷ []) e g =
      let n = size i (0 ∷ (h ∷ [])) e in
      cut (ap (take 1) e) (omega arith) (ap (of_feed 54 i) (omega arith))
  amount_told i (h ∷ (l ∷ xs)) e g = (amount h l (ap (take 3) e) refl, g (omega arith))

  key_told : (i t : ℕ) (xs : List ℕ) (a : Bool) → ltb t T ≡ a → drop i keys ≡ t ∷ xs → t ≢ 0 → t ≢ 255 → Telling (i + 1) (presses T (i + 1) 0 xs) → Telling i (key_pressed T i t ∷ presses T (i + 1) 0 xs)
  key_told i t xs true f e z n h = simp f (terminal t (ap (take 1) e) z n (ltb-true t T f) refl, h)
  key_told i t xs false f e z n h = simp f (unknown t (ap (take 1) e) z n (ltb-false t T f) refl)

  press_told : (i t : ℕ) (xs : List ℕ) (a b : Bool) → eqb t 255 ≡ a → eqb t 0 ≡ b → drop i keys ≡ t ∷ xs → (2 ≤ length xs → Telling (i + 3) (presses T (i + 1) 2 xs)) → Telling (i + 1) (presses T (i + 1) 0 xs)
      → Telling i (cond a [] (cond b (amount_pressed i xs ∷ presses T (i + 1) 2 xs) (key_pressed T i t ∷ presses T (i + 1) 0 xs)))
  press_told i t xs true b f g e h k = inr (ap (take 1) e ∙ ap (λ n. n ∷ []) (eqb-true t 255 f))
  press_told i t xs false true f g e h k = amount_told i xs (e ∙ ap (λ n. n ∷ xs) (eqb-true t 0 g)) h
  press_told i t xs false false f g e h k = key_told i t xs (ltb t T) refl e (eqb-false t 0 g) (eqb-false t 255 f) k

  presses_told : (i k : ℕ) (xs : List ℕ) (j : ℕ) → drop i keys ≡ xs → i ≤ length keys → k ≤ length xs → j ≡ i + k → Telling j (presses T i k xs)
  presses_told i zero [] j e l m f = inl (let n = size i [] e in omega arith)
  presses_told i (suc k) [] j e l m f = absurd (omega arith)
  presses_told i (suc k) (b ∷ xs) j e l m f =
      let n = size i (b ∷ xs) e in
      presses_told (i + 1) k xs j (sym (drop-drop 1 i keys) ∙ ap (drop 1) e) (omega arith) (omega arith) (omega arith)
  presses_told i zero (b ∷ xs) j e l m f =
      let n = size i (b ∷ xs) e in
      let behind : drop (i + 1) keys ≡ xs = sym (drop-drop 1 i keys) ∙ ap (drop 1) e in
      subst (λ n. Telling n (presses T i 0 (b ∷ xs))) (let g : i ≡ j = omega arith in g)
      (press_told i b xs (eqb b 255) (eqb b 0) refl refl e
      (λ h. presses_told (i + 1) 2 xs (i + 3) behind (omega arith) h (omega arith))
      (presses_told (i + 1) 0 xs (i + 1) behind (omega arith) (omega arith) (omega arith)))

  pub recorded : Recorded T keys (key_coming T 0 keys)
  recorded = presses_told 0 0 keys 0 refl (omega arith) (omega arith) refl

  -- The other way: what stands in the record is what its presses tell.
  left : (i : ℕ) (bs : List ℕ) → Stands keys i bs → drop i keys ≡ bs ++ drop (length bs) (drop i keys)
  left i bs e = sym (take-append-drop (length bs) (drop i keys)) ∙ ap (λ ys. ys ++ drop (length bs) (drop i keys)) e

  off : (a b : ℕ) → a ≢ b → eqb a b ≡ false
  off a b n = elim (cases_Bool (eqb a b)) [ inl e ↦ absurd (n (eqb-true a b e)) | inr e ↦ e ]

  abbrev tells : ℕ → List ℕ → Coming
  tells i xs = told (presses T i 0 xs)

  abbrev before : Word → Coming → Coming
  before w c = record { words = w ∷ c.words; fault = c.fault }

  word_is : (i : ℕ) (w : Word) → Pressed T keys i w → tells i (drop i keys) ≡ before w (tells w.to (drop w.to keys))
  word_is i w (amount h l e f) =
      let first : Word = record { terminal = 0; amount = 256 * h + l; from = i; to = i + 3 } in
      ap (tells i) (left i (0 ∷ (h ∷ (l ∷ []))) e)
      ∙ ap (λ n. before first (tells n (drop 3 (drop i keys)))) (let n : i + 1 + 1 + 1 ≡ i + 3 = omega arith in n)
      ∙ ap (λ v. before v (tells (i + 3) (drop 3 (drop i keys)))) (sym f)
      ∙ ap (λ ys. before w (tells (i + 3) ys)) (drop-drop 3 i keys)
      ∙ ap (λ n. before w (tells n (drop n keys))) (sym (ap (λ v. v.to) f))
  word_is i w (terminal t e z n k f) =
      ap (tells i) (left i (t ∷ []) e)
      ∙ simp (off t 255 n, off t 0 z, lt-ltb t T k) refl
      ∙ ap (λ v. before v (tells (i + 1) (drop 1 (drop i keys)))) (sym f)
      ∙ ap (λ ys. before w (tells (i + 1) ys)) (drop-drop 1 i keys)
      ∙ ap (λ n. before w (tells n (drop n keys))) (sym (ap (λ v. v.to) f))

  cut_is : (i : ℕ) (ys : List ℕ) → length ys < 2 → tells i (0 ∷ ys) ≡ record { words = []; fault = Some (of_feed 54 i (i + 1 + length ys)) }
  cut_is i [] h = ap (λ n. record { words = []; fault = Some (of_feed 54 i n) }) (omega arith)
  cut_is i (b ∷ []) h = ap (λ n. record { words = []; fault = Some (of_feed 54 i n) }) (omega arith)
  cut_is i (b ∷ (a ∷ ys)) h = absurd (omega arith)

  below : (a b : ℕ) → b ≤ a → ltb a b ≡ false
  below a b h = elim (cases_Bool (ltb a b)) [ inl e ↦ absurd (let k = ltb-true a b e in omega arith) | inr e ↦ e ]

  refusal_is : (i : ℕ) (x : Refusal) → Broken T keys i x → tells i (drop i keys) ≡ record { words = []; fault = Some x }
  refusal_is i x (unknown t e z n k f) =
      ap (tells i) (left i (t ∷ []) e)
      ∙ simp (off t 255 n, off t 0 z, below t T k) refl
      ∙ ap (λ y. record { words = []; fault = Some y }) (sym f)
  refusal_is i x (cut e k f) =
      let ys = drop 1 (drop i keys) in
      let at = left i (0 ∷ []) e in
      let n = size i (0 ∷ ys) at in
      ap (tells i) at
      ∙ cut_is i ys (omega arith)
      ∙ ap (λ m. record { words = []; fault = Some (of_feed 54 i m) }) (let m : i + 1 + length ys ≡ length keys = omega arith in m)
      ∙ ap (λ y. record { words = []; fault = Some y }) (sym f)

  tells_all : (i : ℕ) (ws : List Word) (x : Option Refusal) → Keyed T keys i ws x → tells i (drop i keys) ≡ record { words = ws; fault = x }
  tells_all i [] None (inl e) = ap (tells i) (drop_all i keys (omega arith))
  tells_all i [] None (inr e) = ap (tells i) (left i (255 ∷ []) e)
  tells_all i [] (Some x) h = refusal_is i x h
  tells_all i (w ∷ ws) x h = word_is i w h.0 ∙ ap (before w) (tells_all w.to ws x h.1)

pub one_recording : OneRecording
one_recording T xs c d h k = sym (tells_all T xs 0 c.words c.fault h) ∙ tells_all T xs 0 d.words d.fault k
