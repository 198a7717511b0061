use Rattle.parsing.proofs.Theorems.{productivity}
use Rattle.parsing.proofs.productivity_is_decidable.Goals as goal

pub returns : goal.returns
returns c = productivity
