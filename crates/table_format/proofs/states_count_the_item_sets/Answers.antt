use Rattle.table_format.proofs.Theorems.{counting}
use Rattle.table_format.proofs.states_count_the_item_sets.Goals as goal

pub returns : goal.returns
returns c = counting
