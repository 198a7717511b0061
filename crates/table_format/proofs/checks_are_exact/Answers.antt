use Rattle.table_format.proofs.Theorems.{sheet_exactness}
use Rattle.table_format.proofs.checks_are_exact.Goals as goal

pub returns : goal.returns
returns c = sheet_exactness
