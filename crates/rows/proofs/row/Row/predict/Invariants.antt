use Rattle.grammar.specs.Meaning.{meaning}
use Rattle.rows.specs.Rows.{items, member}
use Rattle.rows.proofs.Passes.{Turn}
use Rattle.rows.proofs.row.Row.predict.Given as goal

abbrev pub invariant-loop-rule : goal.invariant-loop-rule
invariant-loop-rule l = Turn (meaning l.grammar) (items l.initial.self) (items l.self) (member l.next) l.added l.rule
