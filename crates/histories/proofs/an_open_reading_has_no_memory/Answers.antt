use Rattle.histories.proofs.Remembering.{no_memory}
use Rattle.histories.proofs.an_open_reading_has_no_memory.Goals as goal

pub returns : goal.returns
returns c = no_memory
