use Rattle.parsing.proofs.Theorems.{viable_prefixes}
use Rattle.parsing.proofs.live_states_show_viable_prefixes.Goals as goal

pub returns : goal.returns
returns c = viable_prefixes
