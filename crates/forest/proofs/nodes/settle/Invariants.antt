use Rattle.std.proofs.Common.{◌≡◌, ℕ, ◌+◌, ◌<◌, length}
use Rattle.register.specs.Registers.{held, SameSlots}
use Rattle.forest.specs.Sweeps.{Sweep, Past}
use Rattle.forest.proofs.Sweeping.{Cell, DoneHeld, falses}
use Rattle.forest.proofs.nodes.settle.Given as goal

abbrev pub invariant-loop-symbol : goal.invariant-loop-symbol
invariant-loop-symbol g l =
    (length l.done ≡ 256)
    × SameSlots l.initial.nodes l.nodes
    × DoneHeld l.i l.j l.done (held l.nodes)
    × ((n : ℕ) → n < 255 → Sweep (g.S.StateSource.meaning l.source).grammar (g.F.Fits.says l.spans) n (Past l.i (l.j + 1)) (held l.initial.nodes)
    → Sweep (g.S.StateSource.meaning l.source).grammar (g.F.Fits.says l.spans) n (Cell l.i l.j l.done) (held l.nodes))

abbrev pub decreases-loop-symbol : goal.decreases-loop-symbol
decreases-loop-symbol g l = falses l.done
