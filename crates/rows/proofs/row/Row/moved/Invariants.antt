use Rattle.grammar.specs.Meaning.{meaning}
use Rattle.rows.specs.Rows.{items}
use Rattle.rows.proofs.Stepping.{Swept}
use Rattle.rows.proofs.row.Row.moved.Given as goal

abbrev pub invariant-loop-rule : goal.invariant-loop-rule
invariant-loop-rule l = Swept (meaning l.grammar) (items l.self) l.symbol (items l.moved) l.rule
