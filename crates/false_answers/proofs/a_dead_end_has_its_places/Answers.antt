use Rattle.false_answers.proofs.Refuting.{wrong_places}
use Rattle.false_answers.proofs.a_dead_end_has_its_places.Goals as goal

pub returns : goal.returns
returns c = wrong_places
