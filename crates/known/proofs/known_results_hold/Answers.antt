use Rattle.known.proofs.Theorem.{known_results}
use Rattle.known.proofs.known_results_hold.Goals as goal

pub returns : goal.returns
returns c = known_results
