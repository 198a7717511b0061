use Rattle.std.proofs.Common.{◌≡◌, take}
use Rattle.grammar.specs.Lists.{items}
use Rattle.grammar.proofs.few.Few.of.Given as goal

abbrev pub invariant-loop-item : goal.invariant-loop-item
invariant-loop-item g l = items l.few ≡ take l.item-index l.list
