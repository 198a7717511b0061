use Rattle.parsing.proofs.Theorems.{witness}
use Rattle.parsing.proofs.lawful_sources_exist.Goals as goal

pub returns : goal.returns
returns c = witness
