use Rattle.built_states.proofs.OneWay.{one_building}
use Rattle.built_states.proofs.once.states_are_built_in_one_way.Goals as goal

pub returns : goal.returns
returns c = one_building
