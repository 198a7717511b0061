use Rattle.std.proofs.Common.{◌≡◌}
use Rattle.grammar_format.specs.Fields.{remains}
use Rattle.inspection.proofs.fields.remains.Given as goal

abbrev pub invariant-loop : goal.invariant-loop
invariant-loop l = l.rest ≡ remains l.sheet l.counter
