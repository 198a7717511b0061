use Rattle.std.proofs.Common.{sym, refl, ◌∙◌}
use Rattle.link_growth.specs.declared.Link.{Link}
use Rattle.links.proofs.Sieves.{at_place_is}
use Rattle.links.proofs.Places.{there_by, absent_by, same_link}
use Rattle.links.proofs.table.Table.has.Goals as goal

pub returns-clause-there : goal.returns-clause-there
returns-clause-there c e =
    there_by c.args.self.now c.args.link (at_place_is c.of_place.ensures) _ (λ (y : Link) h. (same_link y c.args.link).0 h) (sym c.contains.ensures.value ∙ e)

pub returns-clause-absent : goal.returns-clause-absent
returns-clause-absent c e =
    absent_by c.args.self.now c.args.link (at_place_is c.of_place.ensures) _ ((same_link c.args.link c.args.link).1 refl) (sym c.contains.ensures.value ∙ e)
