use Rattle.histories.proofs.Tidying.{tidiness}
use Rattle.histories.proofs.records_lie_within_the_words.Goals as goal

pub returns : goal.returns
returns c = tidiness
