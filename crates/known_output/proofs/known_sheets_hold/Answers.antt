use Rattle.known_output.proofs.Theorem.{known_sheets}
use Rattle.known_output.proofs.known_sheets_hold.Goals as goal

pub returns : goal.returns
returns c = known_sheets
