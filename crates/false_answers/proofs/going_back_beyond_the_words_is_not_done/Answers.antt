use Rattle.false_answers.proofs.Refuting.{back_beyond}
use Rattle.false_answers.proofs.going_back_beyond_the_words_is_not_done.Goals as goal

pub returns : goal.returns
returns c = back_beyond
