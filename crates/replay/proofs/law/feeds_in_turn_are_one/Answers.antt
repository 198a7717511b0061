use Rattle.replay.proofs.Following.{two_are_one}
use Rattle.replay.proofs.law.feeds_in_turn_are_one.Goals as goal

pub returns : goal.returns
returns g c = two_are_one g.S.StateSource.meaning
