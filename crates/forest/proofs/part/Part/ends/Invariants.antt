use Rattle.forest.specs.Marks.{Added}
use Rattle.forest.proofs.Rows.{Reached}
use Rattle.forest.proofs.part.Part.ends.Given as goal

abbrev pub invariant-loop-a : goal.invariant-loop-a
invariant-loop-a g l = Added (Reached (g.F.Fits.says l.self.spans.now l.self.symbol) l.self.i l.self.j l.before l.self.next.now l.a) l.initial.row l.row
