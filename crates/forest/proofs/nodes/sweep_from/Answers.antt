use Rattle.std.proofs.Common.{◌+◌, ◌<◌, [], sym, subst}
use Rattle.std.proofs.lemmas.Result.{err_from_is_err_and}
use Rattle.register.specs.Lists.{More}
use Rattle.register.specs.Registers.{held}
use Rattle.register.proofs.Growing.{same_slots, then-slots}
use Rattle.records.specs.declared.node.Node.{Node}
use Rattle.forest.specs.Sweeps.{MetNode, Settles}
use Rattle.forest.proofs.Sweeping.{row_start, row_next, row_end}
use Rattle.forest.proofs.nodes.sweep_from.Goals as goal

pub loop-j-init : goal.loop-j-init
loop-j-init g c =
    let src = g.S.StateSource.meaning c.args.source.now in
    let wf = (g.met.S.StateSource.lawful c.args.source.now).well_formed in (
      same_slots c.args.nodes.now,
      λ n l s. row_start src.grammar wf (g.F.Fits.says c.args.spans.now) (g.met.F.Fits.forward c.args.spans.now) n c.args.i (held c.args.nodes.now) l s,
    )

pub returns-in_err-settle : goal.returns-in_err-settle
returns-in_err-settle g c =
    let src = g.S.StateSource.meaning c.args.source.now in
    let wf = (g.met.S.StateSource.lawful c.args.source.now).well_formed in
    let says = g.F.Fits.says c.args.spans.now in
    let i = c.args.i in
    let v = c.loop-j.invariant in
    let f = c.in_err-settle.ensures in
    let b = err_from_is_err_and c.from_residual.result c.from_residual.ensures.1 in
    subst (λ r. Settles src.grammar says (λ (z : Node). z.from < i) (λ (z : Node). z.from < i + 1) c.args.nodes.now c.settle.new.nodes r) (sym b.1)
    (record {
      same = then-slots c.args.nodes.now c.loop-j.nodes c.settle.new.nodes v.0 f.same;
      short = λ n l s.
          subst (λ t. More (MetNode src.grammar says n) [] t) v.0.size
          (f.short n l (row_next src.grammar wf says (g.met.F.Fits.forward c.args.spans.now) n i c.loop-j.limit c.in-Some.j (held c.loop-j.nodes) c.in-Some.ensures (v.1 n l s)));
    })

pub loop-j-preserved : goal.loop-j-preserved
loop-j-preserved g c =
    let src = g.S.StateSource.meaning c.args.source.now in
    let wf = (g.met.S.StateSource.lawful c.args.source.now).well_formed in
    let says = g.F.Fits.says c.args.spans.now in
    let i = c.args.i in
    let v = c.loop-j.invariant in
    let u = c.in_ok-settle.ensures in (
      then-slots c.args.nodes.now c.loop-j.nodes c.settle.new.nodes v.0 u.same,
      λ n l s. u.goes_on n l
          (row_next src.grammar wf says (g.met.F.Fits.forward c.args.spans.now) n i c.loop-j.limit c.in-Some.j (held c.loop-j.nodes) c.in-Some.ensures (v.1 n l s)),
    )

pub returns : goal.returns
returns g c =
    let src = g.S.StateSource.meaning c.args.source.now in
    let wf = (g.met.S.StateSource.lawful c.args.source.now).well_formed in
    let v = c.loop-j.invariant in
    record {
      same = v.0;
      goes_on = λ n l s. row_end src.grammar wf (g.F.Fits.says c.args.spans.now) (g.met.F.Fits.forward c.args.spans.now) n c.args.i c.loop-j.limit
          (held c.loop-j.nodes) c.in_default.ensures (v.1 n l s);
    }
