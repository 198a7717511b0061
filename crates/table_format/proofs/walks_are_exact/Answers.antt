use Rattle.table_format.proofs.Theorems.{exactness}
use Rattle.table_format.proofs.walks_are_exact.Goals as goal

pub returns : goal.returns
returns c = exactness
