use Rattle.forest.specs.Marks.{Added}
use Rattle.forest.proofs.Rows.{Reach}
use Rattle.forest.proofs.part.Part.begins.Given as goal

abbrev pub invariant-loop-b : goal.invariant-loop-b
invariant-loop-b g l = Added (Reach (g.F.Fits.says l.self.spans.now l.self.symbol) (g.met.F.Fits.forward l.self.spans.now l.self.symbol) l.self.i l.self.j l.self.next.now l.b) l.initial.row l.row
