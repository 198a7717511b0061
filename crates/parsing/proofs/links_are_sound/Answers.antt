use Rattle.parsing.proofs.Theorems.{soundness}
use Rattle.parsing.proofs.links_are_sound.Goals as goal

pub returns : goal.returns
returns c = soundness
