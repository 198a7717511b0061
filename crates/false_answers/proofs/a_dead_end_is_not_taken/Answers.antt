use Rattle.false_answers.proofs.Refuting.{dead_as_alive}
use Rattle.false_answers.proofs.a_dead_end_is_not_taken.Goals as goal

pub returns : goal.returns
returns c = dead_as_alive
