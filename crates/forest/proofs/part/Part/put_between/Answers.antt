use Rattle.std.proofs.Common.{◌+◌, sym, subst, arith}
use Rattle.std.proofs.lemmas.Result.{err_from_is_err_and}
use Rattle.register.specs.Registers.{Grew}
use Rattle.records.specs.Registers.{Nodes}
use Rattle.register.proofs.Growing.{Upto, filled_short, keyed_taken, keyed_passed, keyed_short, keyed_all}
use Rattle.records.specs.declared.node.Node.{Node}
use Rattle.forest.specs.Marks.{Marked}
use Rattle.forest.specs.Parts.{From, Between}
use Rattle.forest.proofs.Betweens.{from_between, between_from}
use Rattle.forest.proofs.Rows.{here, not_here}
use Rattle.forest.proofs.part.Part.put_between.Goals as goal
use Rattle.forest.proofs.part.Part.put_between.Goals.{then-before-from+in_ok-put_from, else-before-from}

pub returns-in_err-put_from : goal.returns-in_err-put_from
returns-in_err-put_from g c =
    let h = g.F.Fits.says c.args.self.now.spans.now c.args.self.now.symbol in
    let S : Node → Type 0 = Between h c.args.before.now c.args.self.now.next.now c.args.self.now.symbol c.args.self.now.i c.args.self.now.j in
    let b = err_from_is_err_and c.from_residual.result c.from_residual.ensures.1 in
    filled_short S c.args.nodes.now c.put_from.new.nodes c.from_residual.result b.0 b.1
    (keyed_short S (λ (z : Node). z.from) (From h c.args.self.now.next.now c.args.self.now.symbol c.args.self.now.j c.loop-a.a) c.args.nodes.now c.loop-a.nodes c.put_from.new.nodes c.loop-a.a
    (λ z q. (from_between h c.args.self.now.symbol c.args.self.now.j c.args.before.now c.args.self.now.next.now c.args.self.now.i c.loop-a.a (omega arith) (omega arith) (here c.args.before.now _ c.loop-a.a c.from.ensures c.if-before-from.true) z q).0)
    c.loop-a.invariant c.in_err-put_from.ensures)

pub loop-a-preserved : goal.loop-a-preserved
loop-a-preserved g c =
    let h = g.F.Fits.says c.args.self.now.spans.now c.args.self.now.symbol in
    let S : Node → Type 0 = Between h c.args.before.now c.args.self.now.next.now c.args.self.now.symbol c.args.self.now.i c.args.self.now.j in
    let k = c.loop-a.a in
    let G : Nodes → Type 0 = λ nodes. Grew (Upto S (λ (z : Node). z.from) (k + 1)) c.args.nodes.now nodes in
    elim c.if-before-from.branch [
      | then-before-from+in_ok-put_from w ↦ subst G (sym w.nodes-is)
          (keyed_taken S (λ (z : Node). z.from) (From h c.args.self.now.next.now c.args.self.now.symbol c.args.self.now.j k) c.args.nodes.now c.loop-a.nodes w.put_from.new.nodes k
          (from_between h c.args.self.now.symbol c.args.self.now.j c.args.before.now c.args.self.now.next.now c.args.self.now.i k (omega arith) (omega arith) (here c.args.before.now _ k c.from.ensures w.if-before-from.true))
          (between_from h c.args.self.now.symbol c.args.self.now.j c.args.before.now c.args.self.now.next.now c.args.self.now.i k)
          c.loop-a.invariant w.in_ok-put_from.ensures)
      | else-before-from w ↦ subst G (sym w.nodes-is)
          (keyed_passed S (λ (z : Node). z.from) c.args.nodes.now c.loop-a.nodes k
          (λ z q e. not_here c.args.before.now _ k c.from.ensures w.if-before-from.false (subst (λ t. Marked c.args.before.now t) e q.begun))
          c.loop-a.invariant)
    ]

pub returns-after-before-from : goal.returns-after-before-from
returns-after-before-from g c =
    let h = g.F.Fits.says c.args.self.now.spans.now c.args.self.now.symbol in
    let S : Node → Type 0 = Between h c.args.before.now c.args.self.now.next.now c.args.self.now.symbol c.args.self.now.i c.args.self.now.j in
    let k = c.loop-a.a in
    let G : Nodes → Type 0 = λ nodes. Grew (Upto S (λ (z : Node). z.from) (k + 1)) c.args.nodes.now nodes in
    let turn : G c.if-before-from.nodes =
    elim c.if-before-from.branch [
      | then-before-from+in_ok-put_from w ↦ subst G (sym w.nodes-is)
          (keyed_taken S (λ (z : Node). z.from) (From h c.args.self.now.next.now c.args.self.now.symbol c.args.self.now.j k) c.args.nodes.now c.loop-a.nodes w.put_from.new.nodes k
          (from_between h c.args.self.now.symbol c.args.self.now.j c.args.before.now c.args.self.now.next.now c.args.self.now.i k (omega arith) (omega arith) (here c.args.before.now _ k c.from.ensures w.if-before-from.true))
          (between_from h c.args.self.now.symbol c.args.self.now.j c.args.before.now c.args.self.now.next.now c.args.self.now.i k)
          c.loop-a.invariant w.in_ok-put_from.ensures)
      | else-before-from w ↦ subst G (sym w.nodes-is)
          (keyed_passed S (λ (z : Node). z.from) c.args.nodes.now c.loop-a.nodes k
          (λ z q e. not_here c.args.before.now _ k c.from.ensures w.if-before-from.false (subst (λ t. Marked c.args.before.now t) e q.begun))
          c.loop-a.invariant)
    ] in
    keyed_all (Between h c.args.before.now c.args.self.now.next.now c.args.self.now.symbol c.args.self.now.i c.args.self.now.j) (λ (z : Node). z.from) c.args.nodes.now c.if-before-from.nodes (k + 1)
    (λ z w. let l = w.high in omega arith) turn
