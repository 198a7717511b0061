use Rattle.table_format.proofs.Theorems.{writing}
use Rattle.table_format.proofs.written_tables_pass.Goals as goal

pub returns : goal.returns
returns c = writing
