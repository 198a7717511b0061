use Rattle.std.proofs.Common.{◌-◌, ◌≤◌}
use Rattle.grammar.specs.Meaning.{meaning}
use Rattle.built_states.specs.Building.{Come}
use Rattle.built_states.proofs.building.Building.all.Given as goal

abbrev pub invariant-loop-i : goal.invariant-loop-i
invariant-loop-i l = Come (meaning l.grammar) l.states l.i 0 × (l.i ≤ l.states.count)

abbrev pub decreases-loop-i : goal.decreases-loop-i
decreases-loop-i l = 255 - l.i
