use Rattle.parsing.proofs.Theorems.{viable}
use Rattle.parsing.proofs.live_states_show_what_may_follow.Goals as goal

pub returns : goal.returns
returns c = viable
