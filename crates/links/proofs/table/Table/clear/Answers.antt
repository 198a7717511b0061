use Rattle.std.proofs.Common.{arith}
use Rattle.links.proofs.Changes.{no_start}
use Rattle.links.proofs.table.Table.clear.Goals as goal

pub invariant_of-self : goal.invariant_of-self
invariant_of-self c =
    let t = c.args.self.now in
    record {
      room = t.room;
      slots = t.slots;
      few = omega arith;
      small = λ k lt. absurd (omega arith);
      once = λ h k lo hi. absurd (omega arith);
      falls = λ k lt. absurd (omega arith);
      high = λ k lt. absurd (omega arith);
      within = no_start t;
      under = λ i k le lt. t.under i k (omega arith) lt;
      over = λ i k x. absurd (omega (arith, x.2));
    }
