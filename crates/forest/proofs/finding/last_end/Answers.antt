use Rattle.std.proofs.Common.{◌≡◌, ◌<◌, List, true, false, MatchOption, sym, ap, ◌∙◌, subst, eqb-true, arith}
use Rattle.std.proofs.lemmas.Bool.Decides.{nat_tests}
use borrow.Author.Tests.{ltb-true}
use Rattle.register.specs.Lists.{Climbs}
use Rattle.records.specs.Orders.{node_cmp}
use Rattle.records.specs.declared.node.Node.{Node}
use Rattle.forest.specs.Finding.{NoneBelow, LastBelow}
use Rattle.forest.proofs.Ordering.{last_below, nothing_below, last_some, match_some}
use Rattle.forest.proofs.finding.last_end.Goals as goal
use Rattle.forest.proofs.finding.last_end.Goals.{then-node-i, else-node-i}

pub returns : goal.returns
returns c =
    let us = c.records-records.result.now in
    let i = c.args.i in
    let n = c.args.limit in
    let k = c.lower_bound.result in
    let b = c.lower_bound.ensures in
    let x = c.in_ok-node.node.now in
    let t = c.if-node-i.then_some in
    let up : Climbs node_cmp us = subst (λ (vs : List Node). Climbs node_cmp vs) (sym c.records-records.ensures) c.args.nodes.now.in_order in
    let (p, q) = last_some us k b.within x (sym c.in_ok-node.ensures.value) in
    let ends : t ≡ true → (x.from ≡ i) × (x.to < n) = λ e. elim c.if-node-i.branch [
      | then-node-i w ↦ (w.if-node-i.true, ltb-true x.to n (sym w.then_some-is ∙ e))
      | else-node-i w ↦ absurd (w.if-node-i.false (eqb-true x.from i (sym w.then_some-is ∙ e)))
    ] in
    let other : t ≡ false → x.from ≡ i → x.to < n → ⊥ = λ e f s. elim c.if-node-i.branch [
      | then-node-i w ↦ (let z = sym w.then_some-is ∙ e in grind (arith, nat_tests))
      | else-node-i w ↦ w.if-node-i.false f
    ] in
    subst (λ (vs : List Node). MatchOption c.then_some.result (NoneBelow vs i n) (LastBelow vs i n)) c.records-records.ensures
    (match_some c.then_some.result t x.to (NoneBelow us i n) (LastBelow us i n) c.then_some.ensures
    (λ e. nothing_below us i n k b up p
    (λ f s. let d = ap (λ (y : Node). y.to) q in other e (ap (λ (y : Node). y.from) (sym q) ∙ f) (omega arith)))
    (λ e.
    let (f, s) = ends e in
    record {
      before = s;
      last = λ z h g r.
          let l = last_below us i n k b up z h g r (ap (λ (y : Node). y.from) q ∙ f) in
          let d = ap (λ (y : Node). y.to) q in
          omega arith;
    }))
