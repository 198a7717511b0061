use Rattle.grammar.specs.Meaning.{meaning}
use Rattle.rows.specs.Rows.{items}
use Rattle.rows.proofs.Stepping.{step_row}
use Rattle.rows.proofs.row.Row.step.Goals as goal

pub returns : goal.returns
returns c =
    let kernel = c.in_ok-row.ensures in
    step_row (meaning c.args.grammar.now) (items c.args.self.now) c.args.symbol (items c.in_ok-row.row) (items c.complete.new.self)
    kernel.moves kernel.row c.complete.ensures
