use Rattle.false_answers.proofs.OverP.{empty_gather}
use Rattle.false_answers.proofs.over_p_an_empty_gather_is_refuted.Goals as goal

pub returns : goal.returns
returns c = empty_gather
