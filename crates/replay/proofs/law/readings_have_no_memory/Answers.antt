use Rattle.replay.proofs.Following.{remembers_nothing}
use Rattle.replay.proofs.law.readings_have_no_memory.Goals as goal

pub returns : goal.returns
returns g c = remembers_nothing g.S.StateSource.meaning
