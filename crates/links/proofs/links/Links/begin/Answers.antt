use Rattle.std.proofs.Common.{rules}
use Rattle.links.proofs.Calls.{begun, not_begun}
use Rattle.links.proofs.links.Links.begin.Goals as goal

pub returns-then-is_err : goal.returns-then-is_err
returns-then-is_err g c =
    let m = c.close-closed.new.self in
    not_begun (g.S.StateSource.meaning c.args.over.now.source.now) c.args.over.now.limit c.args.self.now c.requires m
    (record { table = c.clear.new.self; here = m.here; there = m.there }) c.close-closed.result (search rules) c.clear.ensures.content c.clear.ensures.place c.close-closed.ensures

pub returns-else-is_err : goal.returns-else-is_err
returns-else-is_err g c =
    begun (g.S.StateSource.meaning c.args.over.now.source.now) c.args.over.now.limit c.args.self.now c.requires c.close-closed.new.self
    c.close-closed.result (search rules) c.close-closed.ensures
