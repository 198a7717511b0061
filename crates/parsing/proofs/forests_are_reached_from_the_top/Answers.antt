use Rattle.parsing.proofs.Theorems.{forest}
use Rattle.parsing.proofs.forests_are_reached_from_the_top.Goals as goal

pub returns : goal.returns
returns c = forest
