use Rattle.table_format.proofs.Theorems.{witness}
use Rattle.table_format.proofs.some_sheet_passes.Goals as goal

pub returns : goal.returns
returns c = witness
