use Rattle.parsing.proofs.Theorems.{rows_told}
use Rattle.parsing.proofs.rows_are_told_by_their_bits.Goals as goal

pub returns : goal.returns
returns c = rows_told
