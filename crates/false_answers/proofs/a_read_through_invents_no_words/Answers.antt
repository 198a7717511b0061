use Rattle.false_answers.proofs.Refuting.{invented_words}
use Rattle.false_answers.proofs.a_read_through_invents_no_words.Goals as goal

pub returns : goal.returns
returns c = invented_words
