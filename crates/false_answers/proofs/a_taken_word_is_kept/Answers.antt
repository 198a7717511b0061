use Rattle.false_answers.proofs.Refuting.{dropped_word}
use Rattle.false_answers.proofs.a_taken_word_is_kept.Goals as goal

pub returns : goal.returns
returns c = dropped_word
