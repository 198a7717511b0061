use Rattle.std.proofs.Common.{◌≡◌, true, subst, rules}
use Rattle.link_growth.specs.declared.Link.{Link}
use Rattle.link_growth.specs.Entries.{Mem}
use Rattle.link_growth.proofs.Members.{mem_drop}
use Rattle.links.specs.Tables.{content}
use Rattle.links.proofs.Spreads.{lower_room, drawn_empty}
use Rattle.links.proofs.seeds.Seeds.below.Goals as goal

pub collect-requires-clause-room : goal.collect-requires-clause-room
collect-requires-clause-room g c =
    let s = c.args.self.now in
    let src = g.S.StateSource.meaning s.source.now in
    lower_room s.table.now (λ (l : Link). src.done l.state s.rule ≡ true) (λ l r k. search rules)
    (λ l m. mem_drop s.from (content s.table.now) (subst (λ v. Mem l v) c.since.ensures m)) (drawn_empty s.table.now c.clear.ensures)
