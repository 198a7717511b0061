use Rattle.false_answers.proofs.OverP.{one_gather}
use Rattle.false_answers.proofs.over_p_eight_words_have_one_gather.Goals as goal

pub returns : goal.returns
returns c = one_gather
