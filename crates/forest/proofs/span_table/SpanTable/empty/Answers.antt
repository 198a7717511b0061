use Rattle.forest.proofs.Cells.{told_none}
use Rattle.forest.proofs.span_table.SpanTable.empty.Goals as goal

pub returns : goal.returns
returns c x i j = told_none c.empty-none.result c.empty-none.ensures 256 256 x i j
