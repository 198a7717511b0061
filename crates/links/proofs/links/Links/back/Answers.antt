use Rattle.std.proofs.Common.{arith}
use Rattle.links.proofs.Calls.{went_back, stayed}
use Rattle.links.proofs.links.Links.back.Goals as goal

pub returns-then-k-from : goal.returns-then-k-from
returns-then-k-from c =
    let l = c.args.self.now in
    went_back c.args.k l (record { table = c.cut.new.self; here = l.here; there = l.there }) (omega (arith, c.if-k-from.true)) c.cut.ensures

pub returns-else-k-from : goal.returns-else-k-from
returns-else-k-from c = stayed c.args.k c.args.self.now (omega (arith, c.if-k-from.false))
