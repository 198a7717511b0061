use Rattle.std.proofs.Common.{ℕ, ◌<◌}
use Rattle.register.specs.Registers.{held, SameSlots}
use Rattle.records.specs.declared.node.Node.{Node}
use Rattle.forest.specs.Sweeps.{Sweep, Past}
use Rattle.forest.proofs.nodes.sweep_from.Given as goal

abbrev pub invariant-loop-j : goal.invariant-loop-j
invariant-loop-j g l =
    SameSlots l.initial.nodes l.nodes
    × ((n : ℕ) → n < 255 → Sweep (g.S.StateSource.meaning l.source).grammar (g.F.Fits.says l.spans) n (λ (z : Node). z.from < l.i) (held l.initial.nodes)
    → Sweep (g.S.StateSource.meaning l.source).grammar (g.F.Fits.says l.spans) n (Past l.i l.limit) (held l.nodes))

abbrev pub decreases-loop-j : goal.decreases-loop-j
decreases-loop-j g l = l.limit
