use Rattle.std.specs.Fn.{FnReturnsAt}
use Rattle.links.specs.Sets.{cells_of}
use Rattle.links.proofs.Spreads.{Collecting}
use Rattle.links.proofs.cells.Cells.collect.Given as goal

abbrev pub invariant-loop-link : goal.invariant-loop-link
invariant-loop-link g l = Collecting (FnReturnsAt g.F.Fn l.pick) l.links l.link-index (cells_of l.initial.self) (cells_of l.self)
