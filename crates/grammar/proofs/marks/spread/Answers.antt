use Rattle.std.proofs.Common.{◌≡◌, ℕ, true, set, sym, ap, ◌∙◌, subst, arith}
use Rattle.parsing.specs.Grammar.{Rule as Rewriting}
use Rattle.grammar.specs.Holding.{rule_at, rewriting}
use Rattle.grammar.specs.Marking.{marked, Ready}
use Rattle.grammar.proofs.Marking.{mark_turn, idle_turn}
use Rattle.grammar.proofs.Rewriting.{rule_is}
use Rattle.grammar.proofs.marks.spread.Goals as goal
use Rattle.grammar.proofs.marks.spread.Goals.{then-not-marks-left+then-is_ready, else-not-marks-left}
use Rattle.grammar.proofs.marks.spread.Goals.{else-not-marks-left-via-then-not-marks-left+else-is_ready, else-not-marks-left-via-else-not-marks-left}

pub loop-rule-preserved : goal.loop-rule-preserved
loop-rule-preserved c =
    let ps = c.args.rules.now in
    let v = c.loop-rule.marks in
    let r = c.loop-rule.rule-index in
    let same : rewriting c.rule-item.result ≡ rule_at ps r = ap rewriting c.rule-item.is ∙ sym (rule_is ps r c.loop-rule-test.true c.rule-item.result) in
    let left : c.from-left.result ≡ (rule_at ps r).left = c.from-left.ensures ∙ ap (λ (p : Rewriting). p.left) same in
    elim c.if-not-marks-left.branch [
      | then-not-marks-left+then-is_ready w ↦
          mark_turn ps c.args.marks.now v c.if-not-marks-left.marks c.loop-rule.added c.if-not-marks-left.added r
          c.loop-rule.invariant c.loop-rule-test.true (omega arith)
          (ap (marked v) (sym left) ∙ w.if-not-marks-left.true)
          (subst (λ (p : Rewriting). Ready v p.right) same w.if-is_ready.ensures)
          (w.marks-is ∙ ap (λ (a : ℕ). set v a true) left) w.added-is
      | else-not-marks-left w ↦
          idle_turn ps c.args.marks.now v c.if-not-marks-left.marks c.loop-rule.added c.if-not-marks-left.added r
          c.loop-rule.invariant
          (elim w.else-not-marks-left.branch [
            | else-not-marks-left-via-then-not-marks-left+else-is_ready x ↦ λ ready. absurd (x.if-is_ready.ensures (subst (λ (p : Rewriting). Ready v p.right) (sym same) ready))
            | else-not-marks-left-via-else-not-marks-left x ↦ λ ready. ap (marked v) (sym left) ∙ x.if-not-marks-left.false
          ])
          w.marks-is w.added-is
    ]
