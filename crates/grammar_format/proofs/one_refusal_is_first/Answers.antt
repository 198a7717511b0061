use Rattle.grammar_format.proofs.Theorems.{uniqueness}
use Rattle.grammar_format.proofs.one_refusal_is_first.Goals as goal

pub returns : goal.returns
returns c = uniqueness
