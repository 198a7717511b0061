use Rattle.std.proofs.Common.{arith}
use Rattle.links.proofs.Spreads.{spreading_drawn, spreading_all}
use Rattle.links.proofs.levels.spread.Goals as goal

pub scan-requires : goal.scan-requires
scan-requires c = spreading_drawn c.loop-k.invariant.1

pub returns : goal.returns
returns c = spreading_all (omega (arith, c.loop-k-test.false, c.len-k-end.ensures.value)) c.loop-k.invariant.1
