use Rattle.grammar.specs.Meaning.{meaning}
use Rattle.rows.specs.Rows.{items}
use Rattle.rows.proofs.Completing.{first_row}
use Rattle.rows.proofs.row.Row.first.Goals as goal

pub returns : goal.returns
returns c =
    first_row (meaning c.args.grammar.now) (items c.empty-row.result) (items c.add.new.self) (items c.complete.new.self)
    c.empty-row.ensures c.add.ensures c.complete.ensures
