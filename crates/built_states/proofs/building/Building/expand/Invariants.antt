use Rattle.std.proofs.Common.{◌≤◌}
use Rattle.grammar.specs.Meaning.{meaning}
use Rattle.built_states.specs.Building.{Come}
use Rattle.built_states.proofs.building.Building.expand.Given as goal

abbrev pub invariant-loop-x : goal.invariant-loop-x
invariant-loop-x l = Come (meaning l.grammar) l.self l.i l.x × (l.initial.self.count ≤ l.self.count)
