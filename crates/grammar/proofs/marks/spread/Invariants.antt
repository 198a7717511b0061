use Rattle.grammar.proofs.Marking.{Spread}
use Rattle.grammar.proofs.marks.spread.Given as goal

abbrev pub invariant-loop-rule : goal.invariant-loop-rule
invariant-loop-rule l = Spread l.rules l.initial.marks l.marks l.added l.rule-index
