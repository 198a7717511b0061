-- What a text feed answers.
use Rattle.std.proofs.Common.{◌≡◌, ℕ, true, List, ◌∷◌, map, drop, is_err, IsErrAnd, Some, Ok, Err, Result, sym, refl, ap, ◌∙◌, arith}
use Rattle.grammar_format.specs.Sheets.{Sheet}
use Rattle.words.specs.Feeds.{told, Handed}
use Rattle.words.specs.Refusals.{refusal}
use Rattle.words.specs.Runs.{Run, runs}
use Rattle.words.specs.Texts.{said, text_coming}
use Rattle.words.specs.declared.word.Word.{Word}
use Rattle.words.specs.declared.fault.FeedFault.{FeedFault}
use Rattle.words.proofs.Handing.{hand_word, hand_fault}

-- What a `?` hands on.
pub err_is : {A E : Type 0} (r : Result A E) (x : E) → (is_err r ≡ true) × IsErrAnd r (λ y. y ≡ x) → r ≡ Err x
err_is (Ok a) x h = let k = h.0 in let z : ◌≡◌ {A = ℕ} 0 1 = cc in absurd (omega arith)
err_is (Err y) x h = ap Err h.1

module _ (s : Sheet) (xs : List ℕ) (p i : ℕ) (same : runs i (drop i xs) ≡ runs p (drop p xs)) where
  -- The first run, and those behind it.
  module _ (j : ℕ) (r : Run) (first : runs i (drop i xs) ≡ r ∷ runs j (drop j xs)) where
    answers : text_coming s p (drop p xs) ≡ told (said s r ∷ map (said s) (runs j (drop j xs)))
    answers = ap (λ rs. told (map (said s) rs)) (sym same ∙ first)

    pub text_word : (w : Word) → said s r ≡ Ok w → Handed (text_coming s p (drop p xs)) (Ok (Some w)) (text_coming s j (drop j xs))
    text_word w e =
        hand_word (text_coming s p (drop p xs)) (text_coming s j (drop j xs)) w (map (said s) (runs j (drop j xs)))
        (answers ∙ ap (λ x. told (x ∷ map (said s) (runs j (drop j xs)))) e) refl

    pub text_fault : (f : FeedFault) → said s r ≡ Err (refusal f) → Handed (text_coming s p (drop p xs)) (Err f) (text_coming s i (drop i xs))
    text_fault f e =
        hand_fault (text_coming s p (drop p xs)) (text_coming s i (drop i xs)) f (map (said s) (runs j (drop j xs)))
        (answers ∙ ap (λ x. told (x ∷ map (said s) (runs j (drop j xs)))) e)
        (ap (λ rs. told (map (said s) rs)) same)
