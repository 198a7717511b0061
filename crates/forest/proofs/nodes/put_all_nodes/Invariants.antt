use Rattle.std.proofs.Common.{◌<◌}
use Rattle.register.specs.Registers.{held, SameSlots}
use Rattle.records.specs.declared.node.Node.{Node}
use Rattle.forest.specs.Sweeps.{Sweep}
use Rattle.forest.proofs.nodes.put_all_nodes.Given as goal

-- What the sweep of each row keeps, from the top alone on.
abbrev pub invariant-loop-i : goal.invariant-loop-i
invariant-loop-i g l =
    SameSlots l.initial.nodes l.nodes
    × (l.last < 255 → Sweep (g.S.StateSource.meaning l.source).grammar (g.F.Fits.says l.spans) l.last (λ (z : Node). z.from < 0) (held l.initial.nodes)
    → Sweep (g.S.StateSource.meaning l.source).grammar (g.F.Fits.says l.spans) l.last (λ (z : Node). z.from < l.i) (held l.nodes))
