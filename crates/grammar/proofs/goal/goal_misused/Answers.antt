use Rattle.std.proofs.Common.{sym, ap, ◌∙◌, subst, arith}
use Rattle.grammar_format.specs.Breaches.{GoalMisused}
use Rattle.grammar.specs.Holding.{rule_block, block_at}
use Rattle.grammar.proofs.Finding.{none_more}
use Rattle.grammar.proofs.Rewriting.{block_is}
use Rattle.grammar.proofs.goal.goal_misused.Goals as goal

pub returns-then-misuses : goal.returns-then-misuses
returns-then-misuses c =
    let p = c.index-rules-r.result in
    let same = block_is c.args.rules.now c.loop-r.r c.loop-r-test.true p ∙ ap rule_block (sym c.index-rules-r.is) in
    (omega arith, c.loop-r-test.true, subst (GoalMisused c.args.goal c.loop-r.r) (sym same) c.if-misuses.ensures, c.loop-r.invariant)

pub loop-r-preserved : goal.loop-r-preserved
loop-r-preserved c =
    let p = c.index-rules-r.result in
    let same = block_is c.args.rules.now c.loop-r.r c.loop-r-test.true p ∙ ap rule_block (sym c.index-rules-r.is) in
    none_more 0 c.loop-r.r (λ r. GoalMisused c.args.goal r (block_at c.args.rules.now r)) c.loop-r.invariant
    (λ g. c.if-misuses.ensures (subst (GoalMisused c.args.goal c.loop-r.r) same g))

pub returns : goal.returns
returns c = λ k h l. c.loop-r.invariant k h (omega arith)
