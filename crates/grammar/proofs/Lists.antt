-- Lists in fixed memory.
use Rattle.std.proofs.Common.{◌≡◌, ℕ, length, arith}
use Rattle.std.proofs.lemmas.List.{length-take-le}
use Rattle.grammar.specs.Lists.{items}
use Rattle.grammar.specs.declared.few.Few.{Few}

pub count_items : {X : Type 0} {N : ℕ} (x : Few X N) → length (items x) ≡ x.count
count_items x = length-take-le x.count x.room (omega (arith, x.few, x.whole))
