use Rattle.false_answers.proofs.Refuting.{feed_as_dead}
use Rattle.false_answers.proofs.a_feed_that_begins_a_sentence_is_not_refused_as_45.Goals as goal

pub returns : goal.returns
returns c = feed_as_dead
