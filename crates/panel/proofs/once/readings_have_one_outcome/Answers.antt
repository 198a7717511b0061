use Rattle.panel.proofs.Deciding.{one_outcome}
use Rattle.panel.proofs.once.readings_have_one_outcome.Goals as goal

pub returns : goal.returns
returns c = one_outcome
