use Rattle.std.proofs.Common.{◌≡◌, ◌+◌, ◌<◌, [], sym, subst, arith}
use Rattle.std.proofs.lemmas.Result.{err_from_is_err_and}
use Rattle.parsing.specs.Grammar.{start}
use Rattle.register.specs.Lists.{More}
use Rattle.register.specs.Registers.{held, Grew, Lacks}
use Rattle.records.specs.Orders.{by_node}
use Rattle.register.proofs.Growing.{then-slots, grew_put, lacks_put}
use Rattle.records.specs.declared.node.Node.{Node}
use Rattle.records.proofs.Faith.{node_faithful}
use Rattle.forest.proofs.Grammars.{start_is}
use Rattle.forest.specs.Finding.{node_at}
use Rattle.forest.specs.Sweeps.{MetNode, Collected}
use Rattle.forest.proofs.Sweeping.{first_sweep, first_short, last_sweep}
use Rattle.forest.proofs.nodes.put_all_nodes.Goals as goal

pub returns-in_err-_new : goal.returns-in_err-_new
returns-in_err-_new g c =
    let gr = (g.S.StateSource.meaning c.args.source.now).grammar in
    let wf = (g.met.S.StateSource.lawful c.args.source.now).well_formed in
    let says = g.F.Fits.says c.args.spans.now in
    let n = c.args.last in
    let x = c.right.result in
    let b = err_from_is_err_and c.from_residual.result c.from_residual.ensures.1 in
    let lacks : Lacks (λ (z : Node). z ≡ node_at (start gr) 0 n) c.args.nodes.now c.insert.new.self =
    subst (λ t. Lacks (λ (z : Node). z ≡ node_at t 0 n) c.args.nodes.now c.insert.new.self) (start_is gr wf x c.right.ensures)
    (lacks_put by_node c.args.nodes.now c.insert.new.self (node_at x 0 n) b.0 c.in_err-_new.ensures) in
    subst (λ r. Collected gr says n c.args.nodes.now c.insert.new.self r) (sym b.1)
    (lacks.same, first_short gr wf says (g.met.F.Fits.forward c.args.spans.now) n c.args.nodes.now c.insert.new.self c.requires.none lacks)

pub returns-in_err-sweep_from : goal.returns-in_err-sweep_from
returns-in_err-sweep_from g c =
    let gr = (g.S.StateSource.meaning c.args.source.now).grammar in
    let wf = (g.met.S.StateSource.lawful c.args.source.now).well_formed in
    let says = g.F.Fits.says c.args.spans.now in
    let n = c.args.last in
    let x = c.right.result in
    let l : n < 255 = (let h = c.requires.few in omega arith) in
    let v = c.loop-i.invariant in
    let f = c.in_err-sweep_from.ensures in
    let b = err_from_is_err_and c.from_residual-in_err-sweep_from.result c.from_residual-in_err-sweep_from.ensures.1 in
    let grew : Grew (λ (z : Node). z ≡ node_at (start gr) 0 n) c.args.nodes.now c.insert.new.self =
    subst (λ t. Grew (λ (z : Node). z ≡ node_at t 0 n) c.args.nodes.now c.insert.new.self) (start_is gr wf x c.right.ensures)
    (grew_put node_faithful c.args.nodes.now c.insert.new.self (node_at x 0 n) c.in_ok-_new._new c.in_ok-_new.ensures) in
    let same = then-slots c.args.nodes.now c.insert.new.self c.loop-i.nodes grew.same v.0 in
    subst (λ r. Collected gr says n c.args.nodes.now c.sweep_from.new.nodes r) (sym b.1) (
      then-slots c.args.nodes.now c.loop-i.nodes c.sweep_from.new.nodes same f.same,
      subst (λ t. More (MetNode gr says n) [] t) same.size
          (f.short n l (v.1 l (first_sweep gr wf says (g.met.F.Fits.forward c.args.spans.now) n c.args.nodes.now c.insert.new.self c.requires.none grew))),
    )

pub loop-i-preserved : goal.loop-i-preserved
loop-i-preserved g c =
    let v = c.loop-i.invariant in
    let u = c.in_ok-sweep_from.ensures in (
      then-slots c.insert.new.self c.loop-i.nodes c.sweep_from.new.nodes v.0 u.same,
      λ l s. u.goes_on c.args.last l (v.1 l s),
    )

pub returns-in_ok-sweep_from : goal.returns-in_ok-sweep_from
returns-in_ok-sweep_from g c =
    let gr = (g.S.StateSource.meaning c.args.source.now).grammar in
    let wf = (g.met.S.StateSource.lawful c.args.source.now).well_formed in
    let says = g.F.Fits.says c.args.spans.now in
    let forward = g.met.F.Fits.forward c.args.spans.now in
    let n = c.args.last in
    let x = c.right.result in
    let l : n < 255 = (let h = c.requires.few in omega arith) in
    let v = c.loop-i.invariant in
    let u = c.in_ok-sweep_from.ensures in
    let grew : Grew (λ (z : Node). z ≡ node_at (start gr) 0 n) c.args.nodes.now c.insert.new.self =
    subst (λ t. Grew (λ (z : Node). z ≡ node_at t 0 n) c.args.nodes.now c.insert.new.self) (start_is gr wf x c.right.ensures)
    (grew_put node_faithful c.args.nodes.now c.insert.new.self (node_at x 0 n) c.in_ok-_new._new c.in_ok-_new.ensures) in (
      then-slots c.args.nodes.now c.loop-i.nodes c.sweep_from.new.nodes (then-slots c.args.nodes.now c.insert.new.self c.loop-i.nodes grew.same v.0) u.same,
      last_sweep gr wf says forward n (c.loop-i.i + 1) (held c.sweep_from.new.nodes) (omega arith)
          (u.goes_on n l (v.1 l (first_sweep gr wf says forward n c.args.nodes.now c.insert.new.self c.requires.none grew))),
    )
