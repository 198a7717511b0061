use Rattle.std.proofs.Common.{rules}
use Rattle.link_growth.specs.declared.Link.{Link}
use Rattle.link_growth.specs.Entries.{cell, lower, Mem}
use Rattle.links.specs.Sets.{cells_of}
use Rattle.links.specs.Tables.{content}
use Rattle.links.proofs.Sieves.{at_place_is}
use Rattle.links.proofs.Spreads.{collected_picked, lower_room, scanned}
use Rattle.links.proofs.levels.scan.Goals as goal

pub collect-requires-clause-room : goal.collect-requires-clause-room
collect-requires-clause-room c =
    lower_room c.args.table.now (λ (l : Link). Mem (cell l.state c.args.place) (cells_of c.args.here.now)) (λ l r k. search rules)
    (λ l m. ((at_place_is c.of_place.ensures l).0 m).0) c.requires

pub returns : goal.returns
returns c =
    scanned (content c.args.table.now) (cells_of c.args.here.now) c.args.place (at_place_is c.of_place.ensures)
    (collected_picked (λ (l : Link). Mem (cell l.state c.args.place) (cells_of c.args.here.now)) lower (λ l r k. search rules) c.collect.ensures)
