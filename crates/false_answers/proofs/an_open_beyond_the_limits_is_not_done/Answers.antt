use Rattle.false_answers.proofs.Refuting.{opened_beyond}
use Rattle.false_answers.proofs.an_open_beyond_the_limits_is_not_done.Goals as goal

pub returns : goal.returns
returns c = opened_beyond
