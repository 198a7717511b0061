use Rattle.false_answers.proofs.OverP.{yes_of_none}
use Rattle.false_answers.proofs.over_p_three_words_are_not_judged_a_sentence.Goals as goal

pub returns : goal.returns
returns c = yes_of_none
