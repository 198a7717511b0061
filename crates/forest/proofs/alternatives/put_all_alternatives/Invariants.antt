use Rattle.register.specs.Registers.{Grew}
use Rattle.forest.specs.Sweeps.{OfSome}
use Rattle.forest.proofs.alternatives.put_all_alternatives.Given as goal

abbrev pub invariant-loop-node : goal.invariant-loop-node
invariant-loop-node g l =
    Grew (OfSome (g.S.StateSource.meaning l.source).grammar (g.F.Fits.says l.spans) l.nodes l.node-index) l.initial.alternatives l.alternatives
