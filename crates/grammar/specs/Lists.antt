-- Lists in fixed memory.
--   items x   the items of the list x
use Rattle.std.specs.Prelude.{ℕ, List, take}
use Rattle.grammar.specs.declared.few.Few.{Few}

abbrev pub items : {X : Type 0} {N : ℕ} → Few X N → List X
items x = take x.count x.room
