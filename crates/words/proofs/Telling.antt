-- From a list of answers to the words that they tell.
use Rattle.std.proofs.Common.{ℕ, List, [], ◌∷◌, IfSome, Ok, Err, Result, MatchResult}
use Rattle.std.specs.List.{AllByRecursion}
use Rattle.grammar.specs.declared.refusal.Refusal.{Refusal}
use Rattle.words.specs.Feeds.{told}
use Rattle.words.specs.Places.{Spot, InOrder}
use Rattle.words.specs.declared.word.Word.{Word}

-- Answers that stand one behind the other within n bytes, from the place i on.
abbrev pub Row : ℕ → ℕ → List (Result Word Refusal) → Type 0
Row n i [] = Unit {0}
Row n i (Ok w ∷ rs) = Spot n i w.from w.to × Row n w.to rs
Row n i (Err f ∷ rs) = Spot n i f.first f.second

pub told_in_order : (n i : ℕ) (rs : List (Result Word Refusal)) → Row n i rs → InOrder n i (told rs).words (told rs).fault
told_in_order n i [] h = tt
told_in_order n i (Ok w ∷ rs) h = (h.0, told_in_order n w.to rs h.1)
told_in_order n i (Err f ∷ rs) h = h

-- What holds of every answer holds of what is told.
module _ (P : Word → Type 0) (Q : Refusal → Type 0) where
  pub told_words : (rs : List (Result Word Refusal)) → AllByRecursion (λ r. MatchResult r P Q) rs → AllByRecursion P (told rs).words
  told_words [] h = tt
  told_words (Ok w ∷ rs) h = (h.0, told_words rs h.1)
  told_words (Err f ∷ rs) h = tt

  pub told_fault : (rs : List (Result Word Refusal)) → AllByRecursion (λ r. MatchResult r P Q) rs → IfSome (told rs).fault Q
  told_fault [] h = tt
  told_fault (Ok w ∷ rs) h = told_fault rs h.1
  told_fault (Err f ∷ rs) h = h.0
