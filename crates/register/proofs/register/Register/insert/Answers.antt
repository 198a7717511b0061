use Rattle.std.proofs.Common.{◌≤◌, List, length, sym, subst, arith}
use Rattle.std.specs.Ordering.{ordering_index}
use Rattle.std.specs.List.Sorted.{IsNonDecreasingBy}
use Rattle.register.specs.Lists.{Climbs}
use Rattle.register.specs.Registers.{held}
use Rattle.register.proofs.Climbing.{rises_from_climbs, PartedAt, climbs_inserted}
use Rattle.register.proofs.register.Register.insert.Goals as goal

pub invariant_of-self : goal.invariant_of-self
invariant_of-self g c =
    let o = g.met.T.Ord.total in
    let a = c.args.self.now in
    let x = c.args.x in
    let i = c.in-Err.place in
    let il : i ≤ length (held a) = subst (λ (zs : List g.row.T.Denot). i ≤ length zs) c.records.ensures c.in-Err.ensures.bound in
    record {
      within = (let w = a.within in let l = c.if-count-self.false in let s = c.put_at.auto.slots in omega arith);
      in_order = subst (λ (zs : List g.row.T.Denot). Climbs g.T.Ord.cmp zs) (sym c.put_at.ensures)
          (climbs_inserted o (held a) i x il a.in_order
          (subst (λ (zs : List g.row.T.Denot). IsNonDecreasingBy (λ y. ordering_index (g.T.Ord.cmp y x)) zs → PartedAt o zs x i) c.records.ensures
          c.in-Err.ensures.position (rises_from_climbs o (held a) x a.in_order)));
    }
