use Rattle.table_format.proofs.Theorems.{reading}
use Rattle.table_format.proofs.sheets_are_written_tables.Goals as goal

pub returns : goal.returns
returns c = reading
