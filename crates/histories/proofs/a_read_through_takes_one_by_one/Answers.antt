use Rattle.histories.proofs.Continuing.{one_by_one}
use Rattle.histories.proofs.a_read_through_takes_one_by_one.Goals as goal

pub returns : goal.returns
returns c = one_by_one
