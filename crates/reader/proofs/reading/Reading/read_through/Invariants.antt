use Rattle.std.proofs.Common.{length}
use Rattle.reader.proofs.Passing.{Going}
use Rattle.reader.proofs.reading.Reading.read_through.Given as goal

abbrev pub invariant-loop-word : goal.invariant-loop-word
invariant-loop-word g l = Going g.S.StateSource.meaning l.fn.self (g.F.WordFeed.coming l.fn.feed) l.self (g.F.WordFeed.coming l.feed)

abbrev pub decreases-loop-word : goal.decreases-loop-word
decreases-loop-word g l = length (g.F.WordFeed.coming l.feed).words
