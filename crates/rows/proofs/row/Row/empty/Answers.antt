use Rattle.rows.proofs.Rows.{none_in}
use Rattle.rows.proofs.row.Row.empty.Goals as goal

pub returns : goal.returns
returns c = none_in
