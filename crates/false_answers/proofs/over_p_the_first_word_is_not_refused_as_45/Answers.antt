use Rattle.false_answers.proofs.OverP.{first_as_dead}
use Rattle.false_answers.proofs.over_p_the_first_word_is_not_refused_as_45.Goals as goal

pub returns : goal.returns
returns c = first_as_dead
