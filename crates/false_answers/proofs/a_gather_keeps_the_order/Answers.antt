use Rattle.false_answers.proofs.Refuting.{out_of_order}
use Rattle.false_answers.proofs.a_gather_keeps_the_order.Goals as goal

pub returns : goal.returns
returns c = out_of_order
