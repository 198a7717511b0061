use Rattle.std.proofs.Common.{◌≡◌, Some, subst, rules}
use Rattle.link_growth.specs.declared.Link.{Link}
use Rattle.link_growth.specs.Entries.{lower, Mem}
use Rattle.link_growth.specs.Picking.{Picked}
use Rattle.links.specs.Sets.{cells_of}
use Rattle.links.proofs.Rounds.{marked_all}
use Rattle.links.proofs.Sieves.{at_place_is}
use Rattle.links.proofs.Spreads.{collected_picked, lower_room, drawn_empty}
use Rattle.links.proofs.firing.mark_linked.Goals as goal

pub collect-requires-clause-room : goal.collect-requires-clause-room
collect-requires-clause-room g c =
    let src = g.S.StateSource.meaning c.args.symbol.now.over.now.source.now in
    lower_room c.args.table.now (λ (l : Link). Mem (lower l) (cells_of c.args.here.now) × (src.next l.below c.args.symbol.now.x ≡ Some l.state)) (λ l r k. search rules)
    (λ l m. ((at_place_is c.of_place.ensures l).0 m).0) (drawn_empty c.args.table.now c.clear.ensures)

pub returns : goal.returns
returns g c =
    let src = g.S.StateSource.meaning c.args.symbol.now.over.now.source.now in
    let P : Link → Type 0 = λ l. Mem (lower l) (cells_of c.args.here.now) × (src.next l.below c.args.symbol.now.x ≡ Some l.state) in
    marked_all src c.args.symbol.now.x c.args.table.now (cells_of c.args.here.now) (at_place_is c.of_place.ensures)
    (subst (λ v. Picked P lower c.of_place.result.now v (cells_of c.collect.new.self)) c.clear.ensures (collected_picked P lower (λ l r k. search rules) c.collect.ensures))
