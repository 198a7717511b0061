use Rattle.grammar.specs.Meaning.{meaning}
use Rattle.built_states.proofs.Growing.{begun}
use Rattle.built_states.proofs.building.Building.begin.Goals as goal

pub returns : goal.returns
returns c = begun (meaning c.args.grammar.now) c.first.result c.first.ensures
