use Rattle.replay.proofs.Growing.{Made, Kept}
use Rattle.replay.proofs.run.replay.Given as goal

-- The calls so far were made.
abbrev pub invariant-loop-i : goal.invariant-loop-i
invariant-loop-i g l =
    Made g.F.WordFeed.coming g.S.StateSource.meaning l.fn.source l.fn.steps l.i l.log l.steps l.reading × Kept g.F.WordFeed.coming l.fn.steps l.fn.log l.i l.log l.steps
