use Rattle.histories.proofs.Answering.{determinacy}
use Rattle.histories.proofs.calls_have_one_answer.Goals as goal

pub returns : goal.returns
returns c = determinacy
