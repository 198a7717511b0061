use Rattle.parsing.proofs.Theorems.{leastness}
use Rattle.parsing.proofs.links_are_the_least.Goals as goal

pub returns : goal.returns
returns c = leastness
