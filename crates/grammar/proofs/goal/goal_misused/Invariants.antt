use Rattle.grammar_format.specs.Breaches.{GoalMisused}
use Rattle.grammar.specs.Finding.{NoneOf}
use Rattle.grammar.specs.Holding.{block_at}
use Rattle.grammar.proofs.goal.goal_misused.Given as goal

abbrev pub invariant-loop-r : goal.invariant-loop-r
invariant-loop-r l = NoneOf 0 l.r (λ r. GoalMisused l.goal r (block_at l.rules r))
