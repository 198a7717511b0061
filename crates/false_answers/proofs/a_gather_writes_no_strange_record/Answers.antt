use Rattle.false_answers.proofs.Refuting.{strange_record}
use Rattle.false_answers.proofs.a_gather_writes_no_strange_record.Goals as goal

pub returns : goal.returns
returns c = strange_record
