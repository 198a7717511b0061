use Rattle.std.proofs.Common.{arith}
use Rattle.links.proofs.Changes.{cut_within}
use Rattle.links.proofs.table.Table.cut.Goals as goal

pub invariant_of-self : goal.invariant_of-self
invariant_of-self c =
    let t = c.args.self.now in
    let n = c.end_of-self.result in
    let a = c.end_of-self.ensures in
    let w = a.within in
    record {
      room = t.room;
      slots = t.slots;
      few = omega (arith, t.few);
      small = λ k lt. t.small k (omega arith);
      once = λ h k lo hi. t.once h k lo (omega arith);
      falls = λ k lt. t.falls k (omega arith);
      high = λ k lt. omega (arith, a.under k lt);
      within = cut_within t c.args.k n c.requires a;
      under = λ i k le lt. t.under i k (omega (arith, c.requires)) lt;
      over = λ i k x. t.over i k (omega (arith, c.requires, x.0), x.1, omega (arith, x.2));
    }
