use Rattle.false_answers.proofs.Refuting.{left_words}
use Rattle.false_answers.proofs.a_read_through_that_judges_leaves_no_words.Goals as goal

pub returns : goal.returns
returns c = left_words
