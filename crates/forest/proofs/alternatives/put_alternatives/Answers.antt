use Rattle.std.proofs.Common.{◌+◌, ◌<◌, sym, subst, arith}
use Rattle.std.proofs.lemmas.Result.{err_from_is_err_and}
use Rattle.parsing.specs.Grammar.{rule_count}
use Rattle.register.specs.Registers.{Grew, Lacks}
use Rattle.records.specs.Registers.{Alternatives}
use Rattle.register.proofs.Growing.{filled_short}
use Rattle.forest.specs.Parts.{Whole, Of}
use Rattle.forest.proofs.Wholes.{rule_taken, rule_passed, rule_short}
use Rattle.forest.proofs.alternatives.put_alternatives.Goals as goal
use Rattle.forest.proofs.alternatives.put_alternatives.Goals.{in-Some+in_ok-put_alternatives, in_default}

pub returns-in_err-put_alternatives : goal.returns-in_err-put_alternatives
returns-in_err-put_alternatives g c =
    let gr = (g.S.StateSource.meaning c.args.source.now).grammar in
    let says = g.F.Fits.says c.args.spans.now in
    let y = c.args.node in
    let r = c.loop-rule.rule in
    let rl : r < rule_count gr = (let e = c.rules-rule-end.ensures in omega arith) in
    let (l, s, f, q, i, j) = c.in-Some.ensures in
    let lacks : Lacks (Whole gr says r y.from y.to) c.loop-rule.alternatives c.put_alternatives.new.alternatives = rw (s, f, q, i, j) at c.in_err-put_alternatives.ensures in
    let b = err_from_is_err_and c.from_residual.result c.from_residual.ensures.1 in
    filled_short (Of gr says y (rule_count gr)) c.args.alternatives.now c.put_alternatives.new.alternatives c.from_residual.result b.0 b.1
    (rule_short gr says y c.args.alternatives.now c.loop-rule.alternatives c.put_alternatives.new.alternatives r (rule_count gr) l rl c.loop-rule.invariant lacks)

pub loop-rule-preserved : goal.loop-rule-preserved
loop-rule-preserved g c =
    let gr = (g.S.StateSource.meaning c.args.source.now).grammar in
    let says = g.F.Fits.says c.args.spans.now in
    let y = c.args.node in
    let r = c.loop-rule.rule in
    let G : Alternatives → Type 0 = λ alternatives. Grew (Of gr says y (r + 1)) c.args.alternatives.now alternatives in
    elim c.match-of.branch [
      | in-Some+in_ok-put_alternatives w ↦
          let (l, s, f, q, i, j) = w.in-Some.ensures in
          let grew : Grew (Whole gr says r y.from y.to) c.loop-rule.alternatives w.put_alternatives.new.alternatives = rw (s, f, q, i, j) at w.in_ok-put_alternatives.ensures in
          subst G (sym w.alternatives-is) (rule_taken gr says y c.args.alternatives.now c.loop-rule.alternatives w.put_alternatives.new.alternatives r l c.loop-rule.invariant grew)
      | in_default w ↦ subst G (sym w.alternatives-is) (rule_passed gr says y c.args.alternatives.now c.loop-rule.alternatives r w.in_default.ensures c.loop-rule.invariant)
    ]
