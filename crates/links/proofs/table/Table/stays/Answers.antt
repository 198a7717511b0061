use Rattle.std.proofs.Common.{◌≡◌, nat_eq, sym, ◌∙◌, rules}
use Rattle.std.proofs.lemmas.Iterator.{YieldsList-from_slice}
use Rattle.std.proofs.lemmas.Iterator.Search.{any_from_yields_List}
use Rattle.std.specs.List.{list_any}
use Rattle.link_growth.specs.declared.Link.{Link}
use Rattle.links.proofs.Sieves.{at_place_is}
use Rattle.links.proofs.Places.{none_stays}
use Rattle.links.proofs.table.Table.stays.Goals as goal

pub returns : goal.returns
returns c e =
    let t = c.args.self.now in
    let is : c.any.result ≡ list_any (λ (l : Link). nat_eq l.below_place t.place) c.of_place.result.now = any_from_yields_List (λ (l : Link). nat_eq l.below_place t.place) _ _ _ c.any.ensures.ran (YieldsList-from_slice c.of_place.result.now cc) (λ x b q k. search rules) in
    none_stays t (at_place_is c.of_place.ensures) (sym is ∙ e)
