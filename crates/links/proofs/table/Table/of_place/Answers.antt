use Rattle.links.proofs.Places.{of_place}
use Rattle.links.proofs.table.Table.of_place.Goals as goal

pub returns : goal.returns
returns c = of_place c.args.self.now c.args.place c.start_of-start.result c.end_of-end.result c.start_of-start.ensures c.end_of-end.ensures
