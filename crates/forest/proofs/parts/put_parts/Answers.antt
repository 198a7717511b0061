use Rattle.std.proofs.Common.{◌+◌, ◌<◌, length, sym, subst, arith}
use Rattle.std.proofs.lemmas.Result.{err_from_is_err_and}
use Rattle.parsing.specs.Grammar.{rule_count, rhs}
use Rattle.register.specs.Registers.{Grew, Lacks}
use Rattle.records.specs.Registers.{Nodes}
use Rattle.register.proofs.Growing.{filled_short}
use Rattle.forest.specs.Parts.{PartOf, PartBelow}
use Rattle.forest.proofs.Placing.{rule_taken, rule_passed, rule_short}
use Rattle.forest.proofs.parts.put_parts.Goals as goal
use Rattle.forest.proofs.parts.put_parts.Goals.{in-Some+in_ok-put_parts, in_default}

pub returns-in_err-put_parts : goal.returns-in_err-put_parts
returns-in_err-put_parts g c =
    let gr = (g.S.StateSource.meaning c.args.source.now).grammar in
    let says = g.F.Fits.says c.args.spans.now in
    let y = c.args.node in
    let r = c.loop-rule.rule in
    let rl : r < rule_count gr = (let e = c.rules-rule-end.ensures in omega arith) in
    let (l, s, f, q, i, j) = c.in-Some.ensures in
    let lacks : Lacks (PartOf gr says r y.from y.to (length (rhs gr r))) c.loop-rule.nodes c.put_parts.new.nodes = rw (s, f, q, i, j) at c.in_err-put_parts.ensures in
    let b = err_from_is_err_and c.from_residual.result c.from_residual.ensures.1 in
    filled_short (PartBelow gr says y (rule_count gr)) c.args.nodes.now c.put_parts.new.nodes c.from_residual.result b.0 b.1
    (rule_short gr says y c.args.nodes.now c.loop-rule.nodes c.put_parts.new.nodes r (rule_count gr) l rl c.loop-rule.invariant lacks)

pub loop-rule-preserved : goal.loop-rule-preserved
loop-rule-preserved g c =
    let gr = (g.S.StateSource.meaning c.args.source.now).grammar in
    let says = g.F.Fits.says c.args.spans.now in
    let y = c.args.node in
    let r = c.loop-rule.rule in
    let G : Nodes → Type 0 = λ nodes. Grew (PartBelow gr says y (r + 1)) c.args.nodes.now nodes in
    elim c.match-of.branch [
      | in-Some+in_ok-put_parts w ↦
          let (l, s, f, q, i, j) = w.in-Some.ensures in
          let grew : Grew (PartOf gr says r y.from y.to (length (rhs gr r))) c.loop-rule.nodes w.put_parts.new.nodes = rw (s, f, q, i, j) at w.in_ok-put_parts.ensures in
          subst G (sym w.nodes-is) (rule_taken gr says y c.args.nodes.now c.loop-rule.nodes w.put_parts.new.nodes r l c.loop-rule.invariant grew)
      | in_default w ↦ subst G (sym w.nodes-is) (rule_passed gr says y c.args.nodes.now c.loop-rule.nodes r w.in_default.ensures c.loop-rule.invariant)
    ]
