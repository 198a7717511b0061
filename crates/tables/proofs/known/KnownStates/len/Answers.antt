use Rattle.std.proofs.Common.{◌∙◌}
use Rattle.tables.proofs.Lists.{len_is}
use Rattle.tables.proofs.known.KnownStates.len.Goals as goal

pub returns : goal.returns
returns c = c.len.ensures.value ∙ len_is c.args.self.now
