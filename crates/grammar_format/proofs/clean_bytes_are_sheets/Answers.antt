use Rattle.grammar_format.proofs.Theorems.{sufficiency}
use Rattle.grammar_format.proofs.clean_bytes_are_sheets.Goals as goal

pub returns : goal.returns
returns c = sufficiency
