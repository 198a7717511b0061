use Rattle.table_format.proofs.Theorems.{sheet_determinacy}
use Rattle.table_format.proofs.checks_are_determined.Goals as goal

pub returns : goal.returns
returns c = sheet_determinacy
