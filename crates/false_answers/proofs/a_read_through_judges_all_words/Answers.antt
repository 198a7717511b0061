use Rattle.false_answers.proofs.Refuting.{early_end}
use Rattle.false_answers.proofs.a_read_through_judges_all_words.Goals as goal

pub returns : goal.returns
returns c = early_end
