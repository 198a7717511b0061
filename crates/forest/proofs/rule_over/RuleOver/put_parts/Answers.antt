use Rattle.std.proofs.Common.{◌≡◌, ◌+◌, ◌<◌, [], length, get_or, sym, subst, arith}
use Rattle.std.proofs.lemmas.Result.{err_from_is_err_and}
use Rattle.parsing.specs.Grammar.{rhs}
use Rattle.spans.specs.Spans.{part_fits}
use Rattle.register.specs.Registers.{Grew, Lacks}
use Rattle.records.specs.Registers.{Nodes}
use Rattle.register.proofs.Growing.{filled_short}
use Rattle.forest.specs.Marks.{Ends}
use Rattle.forest.specs.Parts.{Between, PartOf}
use Rattle.forest.proofs.Rows.{leads_none, leads_more}
use Rattle.forest.proofs.Placing.{parts_none, part_taken, part_passed, part_short}
use Rattle.forest.proofs.rule_over.RuleOver.put_parts.Goals as goal
use Rattle.forest.proofs.rule_over.RuleOver.put_parts.Goals.{then-part-terminals+in_ok-put_between, else-part-terminals}

pub loop-p-init : goal.loop-p-init
loop-p-init g c =
    let gr = (g.S.StateSource.meaning c.args.self.now.source.now).grammar in
    let says = g.F.Fits.says c.args.self.now.spans.now in
    let forward = g.met.F.Fits.forward c.args.self.now.spans.now in
    let r = c.args.self.now.rule in (
      leads_none (part_fits gr says r) (λ p. forward (get_or (rhs gr r) p 0)) (length (rhs gr r)) c.args.self.now.i c.args.self.now.j c.one_mark-before.result (omega arith) c.one_mark-before.ensures,
      parts_none gr says forward r c.args.self.now.i c.args.self.now.j c.args.nodes.now,
    )

pub returns-in_err-put_between : goal.returns-in_err-put_between
returns-in_err-put_between g c =
    let gr = (g.S.StateSource.meaning c.args.self.now.source.now).grammar in
    let says = g.F.Fits.says c.args.self.now.spans.now in
    let forward = g.met.F.Fits.forward c.args.self.now.spans.now in
    let r = c.args.self.now.rule in
    let p = c.loop-p.p in
    let rows = c.completes-rows.result in
    let e : c.parts-p-end.result ≡ length (rhs gr r) = c.parts-p-end.ensures.parts in
    let pm : p < length (rhs gr r) = omega arith in
    let x = c.part-part.ensures in
    let s = x.symbol in
    let t = c.terminals.ensures in
    let lacks : Lacks (Between (says (get_or (rhs gr r) p 0)) c.loop-p.before (get_or rows (p + 1) []) (get_or (rhs gr r) p 0) c.args.self.now.i c.args.self.now.j) c.loop-p.nodes c.put_between.new.nodes =
    rw (x.spans, x.symbol, x.next, x.from, x.to) at c.in_err-put_between.ensures in
    let b = err_from_is_err_and c.from_residual.result c.from_residual.ensures.1 in
    filled_short (PartOf gr says r c.args.self.now.i c.args.self.now.j (length (rhs gr r))) c.args.nodes.now c.put_between.new.nodes c.from_residual.result b.0 b.1
    (part_short gr says forward r c.args.self.now.i c.args.self.now.j p c.loop-p.before rows pm c.loop-p.invariant.0 c.completes-rows.ensures
    c.args.nodes.now c.loop-p.nodes c.put_between.new.nodes (omega arith) c.loop-p.invariant.1
    lacks)

pub loop-p-preserved : goal.loop-p-preserved
loop-p-preserved g c =
    let gr = (g.S.StateSource.meaning c.args.self.now.source.now).grammar in
    let says = g.F.Fits.says c.args.self.now.spans.now in
    let forward = g.met.F.Fits.forward c.args.self.now.spans.now in
    let r = c.args.self.now.rule in
    let p = c.loop-p.p in
    let m = length (rhs gr r) in
    let rows = c.completes-rows.result in
    let e : c.parts-p-end.result ≡ m = c.parts-p-end.ensures.parts in
    let pm : p < m = omega arith in
    let x = c.part-part.ensures in
    let s = x.symbol in
    let t = c.terminals.ensures in
    let ends : Ends (says (get_or (rhs gr r) p 0)) c.args.self.now.i c.args.self.now.j c.loop-p.before (get_or rows (p + 1) []) c.ends-before.result =
    rw (x.spans, x.symbol, x.next, x.from, x.to) at c.ends-before.ensures in
    let G : Nodes → Type 0 = λ nodes. Grew (PartOf gr says r c.args.self.now.i c.args.self.now.j (p + 1)) c.args.nodes.now nodes in (
      leads_more (part_fits gr says r) (λ p. forward (get_or (rhs gr r) p 0)) m c.args.self.now.i c.args.self.now.j p c.loop-p.before c.ends-before.result rows pm c.completes-rows.ensures
          ends
          c.loop-p.invariant.0,
      elim c.if-part-terminals.branch [
        | then-part-terminals+in_ok-put_between w ↦ subst G (sym w.nodes-is)
            (part_taken gr says forward r c.args.self.now.i c.args.self.now.j p c.loop-p.before rows pm c.loop-p.invariant.0 c.completes-rows.ensures
            c.args.nodes.now c.loop-p.nodes w.put_between.new.nodes (let l = w.if-part-terminals.true in omega arith) c.loop-p.invariant.1
            (rw (x.spans, x.symbol, x.next, x.from, x.to) at w.in_ok-put_between.ensures))
        | else-part-terminals w ↦ subst G (sym w.nodes-is)
            (part_passed gr says forward r c.args.self.now.i c.args.self.now.j p c.loop-p.before rows pm c.loop-p.invariant.0 c.completes-rows.ensures
            c.args.nodes.now c.loop-p.nodes (let l = w.if-part-terminals.false in omega arith) c.loop-p.invariant.1)
      ],
    )
