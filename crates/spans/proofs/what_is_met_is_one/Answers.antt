use Rattle.spans.proofs.Uniqueness.{met_is_one}
use Rattle.spans.proofs.what_is_met_is_one.Goals as goal

pub returns : goal.returns
returns c = met_is_one
