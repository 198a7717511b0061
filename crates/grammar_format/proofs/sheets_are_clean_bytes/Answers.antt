use Rattle.grammar_format.proofs.Theorems.{necessity}
use Rattle.grammar_format.proofs.sheets_are_clean_bytes.Goals as goal

pub returns : goal.returns
returns c = necessity
