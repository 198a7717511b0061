use Rattle.std.proofs.Common.{◌≡◌, true, subst, rules}
use Rattle.link_growth.specs.declared.Link.{Link}
use Rattle.link_growth.specs.Entries.{cell, upper, Mem}
use Rattle.link_growth.specs.Picking.{Picked}
use Rattle.link_growth.proofs.Members.{mem_drop}
use Rattle.links.specs.Sets.{cells_of}
use Rattle.links.specs.Tables.{content}
use Rattle.links.proofs.Spreads.{collected_picked, upper_room, tops}
use Rattle.links.proofs.seeds.Seeds.tops.Goals as goal

pub collect-requires-clause-room : goal.collect-requires-clause-room
collect-requires-clause-room g c =
    let s = c.args.self.now in
    let src = g.S.StateSource.meaning s.source.now in
    upper_room s.table.now (cell src.first 0) (λ (l : Link). src.done l.state s.rule ≡ true) (λ l r k. search rules)
    (λ l m. mem_drop s.from (content s.table.now) (subst (λ v. Mem l v) c.since.ensures m)) (λ d m. (c.first.ensures.sound d m).0)

pub returns : goal.returns
returns g c =
    let s = c.args.self.now in
    let src = g.S.StateSource.meaning s.source.now in
    let P : Link → Type 0 = λ l. src.done l.state s.rule ≡ true in
    tops src s.table.now s.rule s.from c.requires.since c.requires.until c.first.ensures
    (subst (λ v. Picked P upper v (cells_of c.first.new.here) (cells_of c.collect.new.self)) c.since.ensures (collected_picked P upper (λ l r k. search rules) c.collect.ensures))
