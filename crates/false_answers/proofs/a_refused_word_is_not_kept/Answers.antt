use Rattle.false_answers.proofs.Refuting.{secret_word}
use Rattle.false_answers.proofs.a_refused_word_is_not_kept.Goals as goal

pub returns : goal.returns
returns c = secret_word
