use Rattle.std.proofs.Common.{rules}
use Rattle.links.proofs.Places.{at_any_place}
use Rattle.links.proofs.links.Links.of_place.Goals as goal

pub returns : goal.returns
returns c =
    at_any_place c.args.self.now.table c.args.place c.try_from.result c.map_or.result.now c.try_from.ensures c.map_or.ensures (λ x k. search rules) (λ e. search rules)
