use Rattle.forest.proofs.Answering.{gathered_occurs}
use Rattle.forest.proofs.what_is_gathered_occurs.Goals as goal

pub returns : goal.returns
returns c = gathered_occurs
