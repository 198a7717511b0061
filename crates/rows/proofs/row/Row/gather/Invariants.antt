use Rattle.grammar.specs.Meaning.{meaning}
use Rattle.rows.specs.Rows.{items, member}
use Rattle.rows.specs.Changes.{Gathers}
use Rattle.rows.proofs.row.Row.gather.Given as goal

abbrev pub invariant-loop-dot : goal.invariant-loop-dot
invariant-loop-dot l = Gathers (meaning l.grammar) (items l.self) l.rule (member l.initial.next) (member l.next) l.dot
