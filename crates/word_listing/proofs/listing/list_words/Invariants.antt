use Rattle.std.proofs.Common.{length}
use Rattle.std.specs.Fmt.{IsPlainFormatter}
use Rattle.word_listing.proofs.Going.{SoFar}
use Rattle.word_listing.proofs.listing.list_words.Given as goal

-- The lines so far, and those of the words that are coming, are all the lines.
abbrev pub invariant-loop-word : goal.invariant-loop-word
invariant-loop-word g l = IsPlainFormatter l.initial.f → SoFar g.W.Write.write_str_gives l.initial.f l.f (g.F.WordFeed.coming l.feed) (g.F.WordFeed.coming l.initial.feed)

abbrev pub decreases-loop-word : goal.decreases-loop-word
decreases-loop-word g l = length (g.F.WordFeed.coming l.feed).words
