use Rattle.std.proofs.Common.{◌≡◌, ℕ, ◌<◌, get_or}
use Rattle.built_states.specs.Writing.{sheet}
use Rattle.built_states.proofs.built.BuiltStates.write.Given as goal

abbrev pub invariant-loop-offset : goal.invariant-loop-offset
invariant-loop-offset l = (k : ℕ) → k < l.offset → get_or l.front k 0 ≡ get_or (sheet l.self) k 0
