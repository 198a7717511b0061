use Rattle.words.proofs.Splitting.{splitting}
use Rattle.words.proofs.stretch.runs_are_stretches.Goals as goal

pub returns : goal.returns
returns c = splitting
