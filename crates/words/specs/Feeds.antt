-- What a word feed means, and what next word answers.
--   Coming           the coming words, then the end or one refusal
--   told rs          the words of rs up to the first refusal, and that refusal
--   Ends f r         the answer r is that no word is left: the end, or a fault that is shown as the refusal f
--   Handed c r d     where c was coming, r is answered, and d is coming afterwards
use Rattle.std.specs.Prelude.{◌≡◌, List, [], ◌∷◌, Some, None, Ok, Err, IsErrAnd, Option, Result}
use Rattle.grammar.specs.declared.refusal.Refusal.{Refusal}
use Rattle.words.specs.Refusals.{refusal}
use Rattle.words.specs.declared.word.Word.{Word}
use Rattle.words.specs.declared.fault.FeedFault.{FeedFault}

pub record Coming : Type 0 where
  pub words : List Word
  pub fault : Option Refusal

-- A refusal comes when it is reached, and nothing comes after it.
abbrev pub told : List (Result Word Refusal) → Coming
told [] = record { words = []; fault = None }
told (Ok w ∷ rs) = record { words = w ∷ (told rs).words; fault = (told rs).fault }
told (Err x ∷ rs) = record { words = []; fault = Some x }

abbrev pub Ends : Option Refusal → Result (Option Word) FeedFault → Type 0
Ends None r = r ≡ Ok None
Ends (Some x) r = IsErrAnd r (λ f. refusal f ≡ x)

-- The first word, which is dropped; after the last the ending, every time.
abbrev pub HandedOf : List Word → Option Refusal → Result (Option Word) FeedFault → Coming → Type 0
HandedOf [] x r d = Ends x r × (d ≡ record { words = []; fault = x })
HandedOf (w ∷ ws) x r d = (r ≡ Ok (Some w)) × (d ≡ record { words = ws; fault = x })

abbrev pub Handed : Coming → Result (Option Word) FeedFault → Coming → Type 0
Handed c r d = HandedOf c.words c.fault r d
