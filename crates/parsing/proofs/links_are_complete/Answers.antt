use Rattle.parsing.proofs.Theorems.{completeness}
use Rattle.parsing.proofs.links_are_complete.Goals as goal

pub returns : goal.returns
returns c = completeness
