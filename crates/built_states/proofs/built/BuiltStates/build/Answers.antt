use Rattle.std.proofs.Common.{refl}
use Rattle.grammar.specs.Meaning.{meaning}
use Rattle.rows.proofs.Grammars.{right_sides}
use Rattle.table_format.proofs.Counting.{set_count}
use Rattle.built_states.proofs.Growing.{finished, not_many}
use Rattle.built_states.proofs.built.BuiltStates.build.Goals as goal

pub invariant_of-result : goal.invariant_of-result
invariant_of-result c =
    record { stepped = c.in_ok-building.ensures.stepped; built = ∣ finished (meaning c.args.grammar.now) c.in_ok-building.building (right_sides c.args.grammar.now) c.in_ok-building.ensures ∣₁ }

pub returns : goal.returns
returns c =
    let f = finished (meaning c.args.grammar.now) c.in_ok-building.building (right_sides c.args.grammar.now) c.in_ok-building.ensures in
    record { over_grammar = refl; built = f; counted = set_count f.matched; not_many = not_many f }
