use Rattle.std.proofs.Common.{◌≡◌, take, drop}
use Rattle.replay.proofs.Pairing.{Passing}
use Rattle.replay.proofs.pair.read_past.Given as goal

-- So far the feed was refused at the words that are noted, and what is past them stays.
abbrev pub invariant-loop-i : goal.invariant-loop-i
invariant-loop-i g l =
    Passing g.S.StateSource.meaning l.fn.reading (g.F.WordFeed.coming l.fn.feed) (take l.i l.refused) l.reading (g.F.WordFeed.coming l.feed)
    × (drop l.i l.refused ≡ drop l.i l.fn.refused)
