-- The replies of the calls on a reading, as the law speaks of them.
--   reply f r           the reply to a call that answers r, where f is the reply to its value
--   made r              the answer of a call that answers nothing else
--   judgement r         the answer of judge
--   through r           the reply of a read-through
--   counts r            the reply of a gather
use Rattle.std.specs.Prelude.{Bool, Ok, Err, Result}
use Rattle.forest.specs.declared.gathering.Counts.{Counts}
use Rattle.histories.specs.Calls.{Reply, done, judged, counted, refused, word_refused, Answer, plain}
use Rattle.reader.specs.declared.fault.ReadingFault.{ReadingFault}
use Rattle.reader.specs.declared.fault.ThroughFault.{ThroughFault}
use Rattle.reader.specs.declared.fault.ThroughFault.TheVariants.{Feed, Reading, Word}
use Rattle.reader.specs.Refusals.{refusal, through_refusal}

abbrev pub made : Result (Unit {0}) ReadingFault → Answer
made (Ok _) = plain done
made (Err f) = plain (refused (refusal f))

abbrev pub judgement : Result Bool ReadingFault → Answer
judgement (Ok b) = plain (judged b)
judgement (Err f) = plain (refused (refusal f))

abbrev pub counts : Result Counts ReadingFault → Reply
counts (Ok c) = counted c.nodes c.alternatives
counts (Err f) = refused (refusal f)

-- Where the reading refused a word, the bytes of the word are told with its refusal.
abbrev pub through : Result Bool ThroughFault → Reply
through (Ok b) = judged b
through (Err (Feed f)) = refused (through_refusal (Feed f))
through (Err (Reading f)) = refused (through_refusal (Reading f))
through (Err (Word w)) = word_refused (through_refusal (Word w)) w.from w.to
