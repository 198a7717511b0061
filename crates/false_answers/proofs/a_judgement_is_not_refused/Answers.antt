use Rattle.false_answers.proofs.Refuting.{refused_judgement}
use Rattle.false_answers.proofs.a_judgement_is_not_refused.Goals as goal

pub returns : goal.returns
returns c = refused_judgement
