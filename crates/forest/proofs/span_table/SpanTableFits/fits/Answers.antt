use Rattle.std.proofs.Common.{ℕ, sym, ap, ◌∙◌}
use Rattle.std.proofs.lemmas.Bool.{lt-leb}
use Rattle.rows.specs.Rows.{member}
use Rattle.forest.specs.Tables.{cell}
use Rattle.forest.proofs.Cells.{told_here, told_back}
use Rattle.forest.proofs.span_table.SpanTableFits.fits.Goals as goal

pub returns-then-from-to : goal.returns-then-from-to
returns-then-from-to c =
    let cells = c.args.self.now.cells in
    c.has.ensures
    ∙ ap (λ (i : ℕ). member (cell cells i c.from-then-from-to.result) c.from-then-from-to-2.result) c.from.ensures
    ∙ ap (λ (j : ℕ). member (cell cells c.args.from j) c.from-then-from-to-2.result) c.from-then-from-to.ensures
    ∙ ap (λ (x : ℕ). member (cell cells c.args.from c.args.to) x) c.from-then-from-to-2.ensures
    ∙ sym (told_here cells c.args.symbol c.args.from c.args.to c.ranges.to.fits c.if-from-to.true)

pub returns-else-from-to : goal.returns-else-from-to
returns-else-from-to c = lt-leb c.args.from c.args.to c.if-from-to.false ∙ sym (told_back c.args.self.now.cells c.args.symbol c.args.from c.args.to c.if-from-to.false)
