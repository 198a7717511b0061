use Rattle.panel.proofs.Agreeing.{one_of_record}
use Rattle.panel.proofs.once.records_have_one_outcome.Goals as goal

pub returns : goal.returns
returns c = one_of_record
