use Rattle.table_format.proofs.Theorems.{lawfulness}
use Rattle.table_format.proofs.matching_tables_are_lawful.Goals as goal

pub returns : goal.returns
returns c = lawfulness
