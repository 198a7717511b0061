use Rattle.replay.proofs.Following.{taken_through}
use Rattle.replay.proofs.law.read_throughs_are_takes.Goals as goal

pub returns : goal.returns
returns g c = taken_through g.S.StateSource.meaning
