use Rattle.std.proofs.Common.{◌+◌, ◌<◌, length, refl, ◌∙◌, arith, length-set}
use Rattle.links.proofs.Changes.{begin_within, begin_under, begin_over}
use Rattle.links.proofs.table.Table.begin.Goals as goal

pub invariant_of-self : goal.invariant_of-self
invariant_of-self c =
    let t = c.args.self.now in
    let p = t.place + 1 in
    let q = c.from.result in
    let slot : q < length t.starts = omega (arith, t.slots, c.requires, c.from.ensures) in
    record {
      room = t.room;
      slots = length-set t.starts q t.count ∙ t.slots;
      few = t.few;
      small = t.small;
      once = t.once;
      falls = t.falls;
      high = λ k lt. omega (arith, t.high k lt);
      within = begin_within t p q refl c.from.ensures slot;
      under = begin_under t p q refl c.from.ensures slot;
      over = begin_over t p q refl c.from.ensures slot;
    }
