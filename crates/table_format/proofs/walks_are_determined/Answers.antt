use Rattle.table_format.proofs.Theorems.{determinacy}
use Rattle.table_format.proofs.walks_are_determined.Goals as goal

pub returns : goal.returns
returns c = determinacy
