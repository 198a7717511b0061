use Rattle.std.proofs.Common.{◌≡◌, ◌+◌, sym, ◌∙◌, subst, arith}
use Rattle.std.proofs.lemmas.Result.{err_from_is_err_and}
use Rattle.register.specs.Registers.{Grew}
use Rattle.records.specs.Registers.{Nodes}
use Rattle.records.specs.Orders.{by_node}
use Rattle.register.proofs.Growing.{Upto, filled_short, grew_put, lacks_put, keyed_taken, keyed_passed, keyed_short, keyed_all}
use Rattle.records.specs.declared.node.Node.{Node}
use Rattle.records.proofs.Faith.{node_faithful}
use Rattle.forest.specs.Parts.{From}
use Rattle.forest.proofs.Betweens.{is_from, from_is, from_not}
use Rattle.forest.proofs.part.Part.put_from.Goals as goal
use Rattle.forest.proofs.part.Part.put_from.Goals.{then-goes+in_ok-insert, else-goes}

pub returns-in_err-insert : goal.returns-in_err-insert
returns-in_err-insert g c =
    let h = g.F.Fits.says c.args.self.now.spans.now c.args.self.now.symbol in
    let S : Node → Type 0 = From h c.args.self.now.next.now c.args.self.now.symbol c.args.self.now.j c.args.a in
    let x : Node = record { from = c.args.a; to = c.loop-b.b; symbol = c.args.self.now.symbol } in
    let b = err_from_is_err_and c.from_residual.result c.from_residual.ensures.1 in
    filled_short S c.args.nodes.now c.insert.new.self c.from_residual.result b.0 b.1
    (keyed_short S (λ (z : Node). z.to) (λ z. z ≡ x) c.args.nodes.now c.loop-b.nodes c.insert.new.self c.loop-b.b
    (λ z q. (is_from h c.args.self.now.symbol c.args.self.now.j c.args.self.now.next.now c.args.a c.loop-b.b (omega arith) (sym c.goes.ensures ∙ c.if-goes.true) z q).0)
    c.loop-b.invariant (lacks_put by_node c.loop-b.nodes c.insert.new.self x b.0 c.in_err-insert.ensures))

pub loop-b-preserved : goal.loop-b-preserved
loop-b-preserved g c =
    let h = g.F.Fits.says c.args.self.now.spans.now c.args.self.now.symbol in
    let S : Node → Type 0 = From h c.args.self.now.next.now c.args.self.now.symbol c.args.self.now.j c.args.a in
    let k = c.loop-b.b in
    let x : Node = record { from = c.args.a; to = k; symbol = c.args.self.now.symbol } in
    let G : Nodes → Type 0 = λ nodes. Grew (Upto S (λ (z : Node). z.to) (k + 1)) c.args.nodes.now nodes in
    elim c.if-goes.branch [
      | then-goes+in_ok-insert w ↦ subst G (sym w.nodes-is)
          (keyed_taken S (λ (z : Node). z.to) (λ z. z ≡ x) c.args.nodes.now c.loop-b.nodes w.insert.new.self k
          (is_from h c.args.self.now.symbol c.args.self.now.j c.args.self.now.next.now c.args.a k (omega arith) (sym c.goes.ensures ∙ w.if-goes.true))
          (from_is h c.args.self.now.symbol c.args.self.now.j c.args.self.now.next.now c.args.a k)
          c.loop-b.invariant (grew_put node_faithful c.loop-b.nodes w.insert.new.self x w.in_ok-insert.field-0 w.in_ok-insert.ensures))
      | else-goes w ↦ subst G (sym w.nodes-is)
          (keyed_passed S (λ (z : Node). z.to) c.args.nodes.now c.loop-b.nodes k
          (from_not h c.args.self.now.symbol c.args.self.now.j c.args.self.now.next.now c.args.a k (sym c.goes.ensures ∙ w.if-goes.false))
          c.loop-b.invariant)
    ]

pub returns-after-goes : goal.returns-after-goes
returns-after-goes g c =
    let h = g.F.Fits.says c.args.self.now.spans.now c.args.self.now.symbol in
    let S : Node → Type 0 = From h c.args.self.now.next.now c.args.self.now.symbol c.args.self.now.j c.args.a in
    let k = c.loop-b.b in
    let x : Node = record { from = c.args.a; to = k; symbol = c.args.self.now.symbol } in
    let G : Nodes → Type 0 = λ nodes. Grew (Upto S (λ (z : Node). z.to) (k + 1)) c.args.nodes.now nodes in
    let turn : G c.if-goes.nodes =
    elim c.if-goes.branch [
      | then-goes+in_ok-insert w ↦ subst G (sym w.nodes-is)
          (keyed_taken S (λ (z : Node). z.to) (λ z. z ≡ x) c.args.nodes.now c.loop-b.nodes w.insert.new.self k
          (is_from h c.args.self.now.symbol c.args.self.now.j c.args.self.now.next.now c.args.a k (omega arith) (sym c.goes.ensures ∙ w.if-goes.true))
          (from_is h c.args.self.now.symbol c.args.self.now.j c.args.self.now.next.now c.args.a k)
          c.loop-b.invariant (grew_put node_faithful c.loop-b.nodes w.insert.new.self x w.in_ok-insert.field-0 w.in_ok-insert.ensures))
      | else-goes w ↦ subst G (sym w.nodes-is)
          (keyed_passed S (λ (z : Node). z.to) c.args.nodes.now c.loop-b.nodes k
          (from_not h c.args.self.now.symbol c.args.self.now.j c.args.self.now.next.now c.args.a k (sym c.goes.ensures ∙ w.if-goes.false))
          c.loop-b.invariant)
    ] in
    keyed_all (From h c.args.self.now.next.now c.args.self.now.symbol c.args.self.now.j c.args.a) (λ (z : Node). z.to) c.args.nodes.now c.if-goes.nodes (k + 1)
    (λ z w. let l = w.to in omega arith) turn
