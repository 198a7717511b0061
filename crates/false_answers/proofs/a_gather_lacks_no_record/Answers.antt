use Rattle.false_answers.proofs.Refuting.{lacking_record}
use Rattle.false_answers.proofs.a_gather_lacks_no_record.Goals as goal

pub returns : goal.returns
returns c = lacking_record
