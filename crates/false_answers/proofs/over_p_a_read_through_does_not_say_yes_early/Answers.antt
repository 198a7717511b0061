use Rattle.false_answers.proofs.OverP.{early_yes}
use Rattle.false_answers.proofs.over_p_a_read_through_does_not_say_yes_early.Goals as goal

pub returns : goal.returns
returns c = early_yes
