use Rattle.histories.proofs.Continuing.{two_feeds}
use Rattle.histories.proofs.two_feeds_are_one.Goals as goal

pub returns : goal.returns
returns c = two_feeds
