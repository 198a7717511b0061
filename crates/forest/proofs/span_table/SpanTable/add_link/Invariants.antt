use Rattle.forest.specs.Tables.{told, Grown}
use Rattle.forest.proofs.Cells.{Entered}
use Rattle.forest.proofs.span_table.SpanTable.add_link.Given as goal

abbrev pub invariant-loop-x : goal.invariant-loop-x
invariant-loop-x g l =
    Grown (Entered (g.S.StateSource.meaning l.source) l.link l.x) (told l.initial.self.cells) (told l.self.cells)
