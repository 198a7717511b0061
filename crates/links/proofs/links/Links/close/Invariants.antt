use Rattle.std.proofs.Common.{◌-◌, None}
use Rattle.links.specs.Tables.{Along, Ahead}
use Rattle.links.proofs.links.Links.close.Given as goal

abbrev pub invariant-loop-self : goal.invariant-loop-self
invariant-loop-self g l = Along (g.S.StateSource.meaning l.over.source.now) None l.initial.self.table l.self.table l.over.limit × Ahead (g.S.StateSource.meaning l.over.source.now) l.self.table l.from

abbrev pub decreases-loop-self : goal.decreases-loop-self
decreases-loop-self g l = 4096 - l.self.table.count
