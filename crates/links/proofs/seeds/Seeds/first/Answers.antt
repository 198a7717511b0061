use Rattle.std.proofs.Common.{sym, ap, ◌∙◌}
use Rattle.std.proofs.lemmas.Bool.{both_ways}
use Rattle.link_growth.specs.Entries.{cell}
use Rattle.links.proofs.Spreads.{bottom_here, bottom_none}
use Rattle.links.proofs.seeds.Seeds.first.Goals as goal

pub returns-then-done : goal.returns-then-done
returns-then-done g c =
    let src = g.S.StateSource.meaning c.args.self.now.source.now in
    bottom_here src c.args.self.now.table.now.place c.args.self.now.rule (cell c.first-first.result 0) c.if-self-eq0.true
    (sym (ap (λ v. src.done v c.args.self.now.rule) c.first-first.ensures) ∙ sym c.if-done.ensures) (ap (λ v. cell v 0) c.first-first.ensures) c.clear.ensures c.insert.ensures

pub returns-else-done : goal.returns-else-done
returns-else-done g c =
    let src = g.S.StateSource.meaning c.args.self.now.source.now in
    bottom_none src c.args.self.now.table.now.place c.args.self.now.rule
    (λ z d. both_ways (src.done src.first c.args.self.now.rule) (sym (ap (λ v. src.done v c.args.self.now.rule) c.first-first.ensures) ∙ sym c.if-done.ensures) d) c.clear.ensures

pub returns-else-self-eq0 : goal.returns-else-self-eq0
returns-else-self-eq0 g c =
    bottom_none (g.S.StateSource.meaning c.args.self.now.source.now) c.args.self.now.table.now.place c.args.self.now.rule (λ z d. c.if-self-eq0.false z) c.clear.ensures
