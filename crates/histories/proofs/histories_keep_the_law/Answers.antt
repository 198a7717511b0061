use Rattle.histories.proofs.Rights.{lawfulness}
use Rattle.histories.proofs.histories_keep_the_law.Goals as goal

pub returns : goal.returns
returns c = lawfulness
