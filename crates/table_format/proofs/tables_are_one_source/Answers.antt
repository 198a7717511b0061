use Rattle.table_format.proofs.Theorems.{one_source}
use Rattle.table_format.proofs.tables_are_one_source.Goals as goal

pub returns : goal.returns
returns c = one_source
