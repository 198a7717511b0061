use Rattle.false_answers.proofs.OverP.{second_as_alive}
use Rattle.false_answers.proofs.over_p_the_second_word_is_not_taken_first.Goals as goal

pub returns : goal.returns
returns c = second_as_alive
