use Rattle.replay.proofs.Leading.{every_history}
use Rattle.replay.proofs.law.histories_are_right.Goals as goal

pub returns : goal.returns
returns g c = every_history g.S.StateSource.meaning g.met.S.StateSource.lawful
