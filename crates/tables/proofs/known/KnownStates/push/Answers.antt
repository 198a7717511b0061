use Rattle.std.proofs.Common.{arith}
use Rattle.std.proofs.lemmas.List.{map_push}
use Rattle.tables.specs.Lists.{listed, known_of}
use Rattle.tables.proofs.Lists.{len_is}
use Rattle.tables.proofs.known.KnownStates.push.Goals as goal

pub push-requires : goal.push-requires
push-requires c = omega (arith, len_is c.args.self.now)

pub returns : goal.returns
unfolding listed
returns c = rw c.push.ensures.items (map_push known_of c.args.self.now.list.items c.args.known)
