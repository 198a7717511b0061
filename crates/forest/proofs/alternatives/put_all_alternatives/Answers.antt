use Rattle.std.proofs.Common.{length}
use Rattle.std.proofs.lemmas.Result.{err_from_is_err_and}
use Rattle.register.proofs.Growing.{filled_short}
use Rattle.forest.specs.Sweeps.{OfSome}
use Rattle.forest.proofs.Listing.{node_taken, node_short}
use Rattle.forest.proofs.alternatives.put_all_alternatives.Goals as goal

pub returns-in_err-put_alternatives : goal.returns-in_err-put_alternatives
returns-in_err-put_alternatives g c =
    let gr = (g.S.StateSource.meaning c.args.source.now).grammar in
    let says = g.F.Fits.says c.args.spans.now in
    let us = c.args.nodes.now in
    let b = err_from_is_err_and c.from_residual.result c.from_residual.ensures.1 in
    filled_short (OfSome gr says us (length us)) c.args.alternatives.now c.put_alternatives.new.alternatives c.from_residual.result b.0 b.1
    (node_short gr says us c.args.alternatives.now c.loop-node.alternatives c.put_alternatives.new.alternatives c.loop-node.node-index (length us) c.loop-node-test.true
    c.loop-node.invariant c.in_err-put_alternatives.ensures)

pub loop-node-preserved : goal.loop-node-preserved
loop-node-preserved g c =
    node_taken (g.S.StateSource.meaning c.args.source.now).grammar (g.F.Fits.says c.args.spans.now) c.args.nodes.now
    c.args.alternatives.now c.loop-node.alternatives c.put_alternatives.new.alternatives c.loop-node.node-index c.loop-node.invariant c.in_ok-put_alternatives.ensures
