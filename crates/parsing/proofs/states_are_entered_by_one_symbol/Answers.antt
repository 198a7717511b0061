use Rattle.parsing.proofs.Theorems.{entering_symbol}
use Rattle.parsing.proofs.states_are_entered_by_one_symbol.Goals as goal

pub returns : goal.returns
returns c = entering_symbol
