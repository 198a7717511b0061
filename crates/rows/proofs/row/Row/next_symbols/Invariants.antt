use Rattle.grammar.specs.Meaning.{meaning}
use Rattle.rows.specs.Rows.{items, member}
use Rattle.rows.proofs.Nexts.{Gathered}
use Rattle.rows.proofs.row.Row.next_symbols.Given as goal

abbrev pub invariant-loop-rule : goal.invariant-loop-rule
invariant-loop-rule l = Gathered (meaning l.grammar) (items l.self) (member l.next) l.rule
