use Rattle.false_answers.proofs.Refuting.{what_is_written}
use Rattle.false_answers.proofs.a_gather_writes_what_occurs.Goals as goal

pub returns : goal.returns
returns c = what_is_written
