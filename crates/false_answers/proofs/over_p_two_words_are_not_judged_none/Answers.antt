use Rattle.false_answers.proofs.OverP.{no_of_sentence}
use Rattle.false_answers.proofs.over_p_two_words_are_not_judged_none.Goals as goal

pub returns : goal.returns
returns c = no_of_sentence
