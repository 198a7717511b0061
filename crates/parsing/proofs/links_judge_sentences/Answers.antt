use Rattle.parsing.proofs.Theorems.{judgement}
use Rattle.parsing.proofs.links_judge_sentences.Goals as goal

pub returns : goal.returns
returns c = judgement
