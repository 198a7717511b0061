use Rattle.grammar.specs.Meaning.{meaning}
use Rattle.rows.specs.Rows.{items, member}
use Rattle.rows.specs.Changes.{Within, Nexts, Led, missing}
use Rattle.rows.proofs.row.Row.complete.Given as goal

abbrev pub invariant-loop-next : goal.invariant-loop-next
invariant-loop-next l =
    Nexts (meaning l.grammar) (items l.self) (member l.next)
    × Within (items l.initial.self) (items l.self)
    × Led (meaning l.grammar) (items l.initial.self) (items l.self)

abbrev pub decreases-loop-next : goal.decreases-loop-next
decreases-loop-next l = missing (items l.self) 64
