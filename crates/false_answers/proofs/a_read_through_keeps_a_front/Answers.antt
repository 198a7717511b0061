use Rattle.false_answers.proofs.Refuting.{front_kept}
use Rattle.false_answers.proofs.a_read_through_keeps_a_front.Goals as goal

pub returns : goal.returns
returns c = front_kept
