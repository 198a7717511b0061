use Rattle.std.proofs.Common.{◌<◌, ◌≤◌, length, ◌∙◌, arith, length-set, rules}
use Rattle.link_growth.specs.declared.Link.{Link}
use Rattle.link_growth.specs.Entries.{lnk, Small}
use Rattle.links.proofs.Lists.{below_set}
use Rattle.links.proofs.Changes.{add_under, add_over, add_once}
use Rattle.links.proofs.table.Table.push.Goals as goal

pub invariant_of-self : goal.invariant_of-self
invariant_of-self c =
    let t = c.args.self.now in
    let l = c.args.link in
    let room : t.count < length t.links = omega (arith, c.if-n-limit.false, c.requires.bound, t.room) in
    let blank = lnk 0 0 0 0 in
    let tiny : Small l = search rules in
    record {
      room = length-set t.links t.count l ∙ t.room;
      slots = t.slots;
      few = omega (arith, c.if-n-limit.false, c.requires.bound);
      small = below_set Small blank t.links t.count l room t.small tiny;
      once = add_once t l room c.requires.here c.requires.fresh;
      falls = below_set (λ (v : Link). v.below_place ≤ v.place) blank t.links t.count l room t.falls (omega (arith, c.requires.here, c.requires.falls));
      high = below_set (λ (v : Link). v.place ≤ t.place) blank t.links t.count l room t.high (omega (arith, c.requires.here));
      within = λ i le. omega (arith, t.within i le);
      under = add_under t l room c.requires.here;
      over = add_over t l room c.requires.here;
    }
