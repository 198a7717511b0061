use Rattle.spans.proofs.Reaching.{spans_judge}
use Rattle.spans.proofs.spans_judge_sentences.Goals as goal

pub returns : goal.returns
returns c = spans_judge
