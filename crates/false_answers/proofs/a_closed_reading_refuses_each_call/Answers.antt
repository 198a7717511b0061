use Rattle.false_answers.proofs.Refuting.{closed_call}
use Rattle.false_answers.proofs.a_closed_reading_refuses_each_call.Goals as goal

pub returns : goal.returns
returns c = closed_call
