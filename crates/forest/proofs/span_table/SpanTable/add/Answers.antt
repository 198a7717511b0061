use Rattle.std.proofs.Common.{ℕ, subst, arith, set}
use Rattle.forest.specs.Tables.{told, One, Grown}
use Rattle.forest.proofs.Cells.{set_grown}
use Rattle.forest.proofs.span_table.SpanTable.add.Goals as goal

pub returns : goal.returns
returns c =
    let cells = c.args.self.now.cells in
    subst (λ (i : ℕ). Grown (One c.args.symbol i c.args.to) (told cells) (told (set cells c.from.result c.add_at.new.row))) c.from.ensures
    (set_grown cells c.args.symbol c.from.result c.args.to c.add_at.new.row (omega arith) c.ranges.to.fits c.add_at.ensures)
