use Rattle.forest.specs.Tables.{told, Grown, OfLinks}
use Rattle.forest.proofs.span_table.SpanTable.add_links.Given as goal

abbrev pub invariant-loop-link : goal.invariant-loop-link
invariant-loop-link g l =
    Grown (OfLinks (g.S.StateSource.meaning l.source) l.links l.link-index) (told l.initial.self.cells) (told l.self.cells)
