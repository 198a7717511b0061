-- The faults of a recipe as refusals.
--   place_of i     the place that a refusal of the input i names
--   too_long i     the refusal of the input i, which has more than 40,000 bytes
--   refusal_of f   the number, the layer and the places of the fault f
--   outcome_of f   the outcome of the fault f: where the reading refused a word of the feed, the bytes of the word are told too
use Rattle.std.specs.Prelude.{ℕ}
use Rattle.grammar.specs.declared.refusal.Refusal.{Refusal}
use Rattle.grammar.specs.declared.refusal.Layer.TheVariants.{Program}
use Rattle.grammar.specs.Refusals.{refusal as of_grammar}
use Rattle.states.specs.Refusals.{refusal as of_table}
use Rattle.reader.specs.Refusals.{through_refusal}
use Rattle.reader.specs.declared.fault.ThroughFault.TheVariants.{Feed, Word, Reading as Itself}
use Rattle.panel.specs.Lines.{Outcome, refused, word_refused}
use Rattle.panel.specs.declared.fault.Input.{Input}
use Rattle.panel.specs.declared.fault.Input.TheVariants.{Grammar as GrammarInput, Table as TableInput, Words}
use Rattle.panel.specs.declared.fault.Fault.{Fault}
use Rattle.panel.specs.declared.fault.Fault.TheVariants.{TooLong, Grammar, Table, Reading}

abbrev pub place_of : Input → ℕ
place_of GrammarInput = 1
place_of TableInput = 2
place_of Words = 3

abbrev pub too_long : Input → Refusal
too_long i = record { number = 55; layer = Program; first = place_of i; second = 0 }

abbrev pub refusal_of : Fault → Refusal
refusal_of (TooLong i) = too_long i
refusal_of (Grammar f) = of_grammar f
refusal_of (Table f) = of_table f
refusal_of (Reading f) = through_refusal f

abbrev pub outcome_of : Fault → Outcome
outcome_of (TooLong i) = refused (too_long i)
outcome_of (Grammar f) = refused (of_grammar f)
outcome_of (Table f) = refused (of_table f)
outcome_of (Reading (Feed f)) = refused (through_refusal (Feed f))
outcome_of (Reading (Itself f)) = refused (through_refusal (Itself f))
outcome_of (Reading (Word w)) = word_refused (through_refusal (Word w)) w.from w.to
