-- The refusals of word feeds.
--   of_feed n p q   the refusal n of a feed, of the bytes from p up to q
--   refusal f       the refusal that the fault f is shown as
--   shown r         the answer r, with the refusal for its fault
use Rattle.std.specs.Prelude.{ℕ, Ok, Err, Result}
use Rattle.grammar.specs.declared.refusal.Refusal.{Refusal}
use Rattle.grammar.specs.declared.refusal.Layer.TheVariants.{Feed}
use Rattle.words.specs.declared.fault.FeedFault.{FeedFault}
use Rattle.words.specs.declared.fault.FeedFault.TheVariants.{UnknownWord, LongAmount, UnknownKey, CutAmount}

abbrev pub of_feed : ℕ → ℕ → ℕ → Refusal
of_feed n p q = record { number = n; layer = Feed; first = p; second = q }

abbrev pub refusal : FeedFault → Refusal
refusal (UnknownWord p q) = of_feed 51 p q
refusal (LongAmount p q) = of_feed 52 p q
refusal (UnknownKey p q) = of_feed 53 p q
refusal (CutAmount p q) = of_feed 54 p q

abbrev pub shown : {A : Type 0} → Result A FeedFault → Result A Refusal
shown (Ok x) = Ok x
shown (Err f) = Err (refusal f)
