use Rattle.false_answers.proofs.Refuting.{record_twice}
use Rattle.false_answers.proofs.a_gather_writes_no_record_twice.Goals as goal

pub returns : goal.returns
returns c = record_twice
