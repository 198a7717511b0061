use Rattle.known_output.proofs.Output.{known_output}
use Rattle.known_output.proofs.known_output_is_printed.Goals as goal

pub returns : goal.returns
returns c = known_output
