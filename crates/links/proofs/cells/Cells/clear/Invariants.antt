use Rattle.std.proofs.Common.{length}
use Rattle.links.proofs.cells.Cells.clear.Given as goal

abbrev pub decreases-loop : goal.decreases-loop
decreases-loop l = length l.self.list.items
