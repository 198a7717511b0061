use Rattle.grammar.specs.Meaning.{meaning}
use Rattle.rows.specs.Rows.{items}
use Rattle.rows.specs.Changes.{Sweeps}
use Rattle.rows.proofs.row.Row.sweep.Given as goal

abbrev pub invariant-loop-dot : goal.invariant-loop-dot
invariant-loop-dot l = Sweeps (meaning l.grammar) (items l.self) l.symbol l.rule (items l.initial.into) (items l.into) l.dot
