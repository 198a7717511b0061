use Rattle.false_answers.proofs.OverP.{one_alternative_more}
use Rattle.false_answers.proofs.over_p_an_alternative_more_is_refuted.Goals as goal

pub returns : goal.returns
returns c = one_alternative_more
