-- The refusals of a reading.
--   refusal f           the number, the layer and the places of the fault f
--   through_refusal f   the same of the fault of a read-through; where it is at a word, the bytes of the word are told beside it
use Rattle.grammar.specs.declared.refusal.Refusal.{Refusal}
use Rattle.links.specs.Refusals.{number_of}
use Rattle.words.specs.Refusals.{refusal as of_feed}
use Rattle.forest.specs.Refusals.{refusal as of_gather}
use Rattle.histories.specs.Refusals.{of_reading}
use Rattle.reader.specs.declared.fault.ReadingFault.{ReadingFault}
use Rattle.reader.specs.declared.fault.ReadingFault.TheVariants.{Closed, LimitRange, LimitTooLow, Take, BackBeyond, Gather}
use Rattle.reader.specs.declared.fault.ThroughFault.{ThroughFault}
use Rattle.reader.specs.declared.fault.ThroughFault.TheVariants.{Feed, Reading, Word}

abbrev pub refusal : ReadingFault → Refusal
refusal Closed = of_reading 40 0 0
refusal LimitRange = of_reading 41 0 0
refusal LimitTooLow = of_reading 42 0 0
refusal (Take f n t) = of_reading (number_of f) n t
refusal (BackBeyond k n) = of_reading 47 k n
refusal (Gather f) = of_gather f

abbrev pub through_refusal : ThroughFault → Refusal
through_refusal (Feed f) = of_feed f
through_refusal (Reading f) = refusal f
through_refusal (Word w) = refusal w.fault
