use Rattle.std.proofs.Common.{◌+◌, true, false, [], replicate, sym, refl, ◌∙◌, subst, arith, length-set}
use Rattle.std.proofs.lemmas.Result.{err_from_is_err_and}
use Rattle.parsing.specs.Grammar.{rule_count}
use Rattle.register.specs.Lists.{More}
use Rattle.register.specs.Registers.{held, Grew}
use Rattle.register.proofs.Growing.{same_slots, then-slots}
use Rattle.forest.specs.Parts.{PartBelow}
use Rattle.forest.specs.Finding.{node_at, Open}
use Rattle.forest.specs.Sweeps.{MetNode, Settles, Past}
use Rattle.forest.proofs.Sweeping.{Cell, falses_set, cell_start, cell_grow, cell_end, sweep_short, held_none, held_more}
use Rattle.forest.proofs.nodes.settle.Goals as goal

pub loop-symbol-init : goal.loop-symbol-init
loop-symbol-init g c =
    let src = g.S.StateSource.meaning c.args.source.now in
    let wf = (g.met.S.StateSource.lawful c.args.source.now).well_formed in
    let done = replicate 256 false in (
      refl,
      same_slots c.args.nodes.now,
      held_none c.args.i c.args.j (held c.args.nodes.now) done refl,
      λ n l s. cell_start src.grammar wf (g.F.Fits.says c.args.spans.now) (g.met.F.Fits.forward c.args.spans.now) n
          c.args.i c.args.j (held c.args.nodes.now) done refl s,
    )

pub returns-in_err-put_parts : goal.returns-in_err-put_parts
returns-in_err-put_parts g c =
    let src = g.S.StateSource.meaning c.args.source.now in
    let wf = (g.met.S.StateSource.lawful c.args.source.now).well_formed in
    let says = g.F.Fits.says c.args.spans.now in
    let i = c.args.i in
    let j = c.args.j in
    let v = c.loop-symbol.invariant in
    let f = c.in_err-put_parts.ensures in
    let b = err_from_is_err_and c.from_residual.result c.from_residual.ensures.1 in
    subst (λ r. Settles src.grammar says (Past i (j + 1)) (Past i j) c.args.nodes.now c.put_parts.new.nodes r) (sym b.1)
    (record {
      same = then-slots c.args.nodes.now c.loop-symbol.nodes c.put_parts.new.nodes v.1 f.same;
      short = λ n l s.
          subst (λ t. More (MetNode src.grammar says n) [] t) v.1.size
          (sweep_short src.grammar wf says (g.met.F.Fits.forward c.args.spans.now) n (Cell i j c.loop-symbol.done) c.loop-symbol.nodes c.put_parts.new.nodes
          (node_at c.in-Some.symbol i j) c.in-Some.ensures.held (v.3 n l s) f);
    })

pub loop-symbol-preserved : goal.loop-symbol-preserved
loop-symbol-preserved g c =
    let src = g.S.StateSource.meaning c.args.source.now in
    let wf = (g.met.S.StateSource.lawful c.args.source.now).well_formed in
    let says = g.F.Fits.says c.args.spans.now in
    let i = c.args.i in
    let j = c.args.j in
    let x = c.from.result in
    let v = c.loop-symbol.invariant in
    let o = subst (λ t. Open (held c.loop-symbol.nodes) i j c.loop-symbol.done t) (sym c.from.ensures) c.in-Some.ensures in
    let u = subst (λ t. Grew (PartBelow src.grammar says (node_at t i j) (rule_count src.grammar)) c.loop-symbol.nodes c.put_parts.new.nodes) (sym c.from.ensures) c.in_ok-put_parts.ensures in (
      length-set c.loop-symbol.done x true ∙ v.0,
      then-slots c.args.nodes.now c.loop-symbol.nodes c.put_parts.new.nodes v.1 u.same,
      held_more i j x c.loop-symbol.done c.loop-symbol.nodes c.put_parts.new.nodes (PartBelow src.grammar says (node_at x i j) (rule_count src.grammar)) o.held u v.2,
      λ n l s. cell_grow src.grammar wf says (g.met.F.Fits.forward c.args.spans.now) n i j x c.loop-symbol.done c.loop-symbol.nodes c.put_parts.new.nodes o v.2 u (v.3 n l s),
    )

pub loop-symbol-smaller : goal.loop-symbol-smaller
loop-symbol-smaller g c =
    let e = c.from.ensures in
    let o = subst (λ t. Open (held c.loop-symbol.nodes) c.args.i c.args.j c.loop-symbol.done t) (sym e) c.in-Some.ensures in
    let v = c.loop-symbol.invariant.0 in
    let s = o.small in
    falses_set c.loop-symbol.done c.from.result (omega arith) o.fresh

pub returns : goal.returns
returns g c =
    let src = g.S.StateSource.meaning c.args.source.now in
    let wf = (g.met.S.StateSource.lawful c.args.source.now).well_formed in
    let v = c.loop-symbol.invariant in
    record {
      same = v.1;
      goes_on = λ n l s. cell_end src.grammar wf (g.F.Fits.says c.args.spans.now) (g.met.F.Fits.forward c.args.spans.now) n c.args.i c.args.j
          (held c.loop-symbol.nodes) c.loop-symbol.done c.in_default.ensures (v.3 n l s);
    }
