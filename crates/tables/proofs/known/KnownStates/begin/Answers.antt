use Rattle.tables.specs.Lists.{listed}
use Rattle.tables.proofs.known.KnownStates.begin.Goals as goal

pub returns : goal.returns
unfolding listed
returns c = rw (c.push.ensures.items, c.new-list.ensures)
