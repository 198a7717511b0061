use Rattle.std.proofs.Common.{length}
use Rattle.links.specs.Sets.{cells_of}
use Rattle.links.proofs.Rounds.{Firing}
use Rattle.links.proofs.firing.fire.Given as goal

abbrev pub invariant-loop-c : goal.invariant-loop-c
invariant-loop-c g l = Firing (g.S.StateSource.meaning l.symbol.over.now.source.now) l.symbol.x l.initial.table l.table l.symbol.over.now.limit (cells_of l.initial.here) (cells_of l.here) (cells_of l.there)

abbrev pub decreases-loop-c : goal.decreases-loop-c
decreases-loop-c g l = length l.here.list.items
