use Rattle.std.proofs.Common.{◌+◌, Bool, false, List, replicate, sym, refl, subst, arith}
use Rattle.forest.specs.Marks.{Added}
use Rattle.forest.proofs.Rows.{here, not_here, Reached, reached_taken, reached_passed, reached_all}
use Rattle.forest.proofs.part.Part.ends.Goals as goal
use Rattle.forest.proofs.part.Part.ends.Goals.{then-before-from, else-before-from}

pub loop-a-preserved : goal.loop-a-preserved
loop-a-preserved g c =
    let h = g.F.Fits.says c.args.self.now.spans.now c.args.self.now.symbol in
    let k = c.loop-a.a in
    let G : List Bool → Type 0 = λ row. Added (Reached h c.args.self.now.i c.args.self.now.j c.args.before.now c.args.self.now.next.now (k + 1)) (replicate 256 false) row in
    elim c.if-before-from.branch [
      | then-before-from w ↦ subst G (sym w.row-is)
          (reached_taken h c.args.self.now.i c.args.self.now.j c.args.before.now c.args.self.now.next.now (replicate 256 false) c.loop-a.row w.mark_ends.new.row k
          (omega arith) (omega arith) (here c.args.before.now _ k c.from.ensures w.if-before-from.true) c.loop-a.invariant w.mark_ends.ensures)
      | else-before-from w ↦ subst G (sym w.row-is)
          (reached_passed h c.args.self.now.i c.args.self.now.j c.args.before.now c.args.self.now.next.now (replicate 256 false) c.loop-a.row k
          (not_here c.args.before.now _ k c.from.ensures w.if-before-from.false) c.loop-a.invariant)
    ]

pub returns : goal.returns
returns g c =
    reached_all (g.F.Fits.says c.args.self.now.spans.now c.args.self.now.symbol) c.args.self.now.i c.args.self.now.j c.args.before.now c.args.self.now.next.now
    (replicate 256 false) c.loop-a.row c.loop-a.a refl (omega arith) c.loop-a.invariant

pub returns-after-before-from : goal.returns-after-before-from
returns-after-before-from g c =
    let h = g.F.Fits.says c.args.self.now.spans.now c.args.self.now.symbol in
    let k = c.loop-a.a in
    let G : List Bool → Type 0 = λ row. Added (Reached h c.args.self.now.i c.args.self.now.j c.args.before.now c.args.self.now.next.now (k + 1)) (replicate 256 false) row in
    let turn : G c.if-before-from.row =
    elim c.if-before-from.branch [
      | then-before-from w ↦ subst G (sym w.row-is)
          (reached_taken h c.args.self.now.i c.args.self.now.j c.args.before.now c.args.self.now.next.now (replicate 256 false) c.loop-a.row w.mark_ends.new.row k
          (omega arith) (omega arith) (here c.args.before.now _ k c.from.ensures w.if-before-from.true) c.loop-a.invariant w.mark_ends.ensures)
      | else-before-from w ↦ subst G (sym w.row-is)
          (reached_passed h c.args.self.now.i c.args.self.now.j c.args.before.now c.args.self.now.next.now (replicate 256 false) c.loop-a.row k
          (not_here c.args.before.now _ k c.from.ensures w.if-before-from.false) c.loop-a.invariant)
    ] in
    reached_all (g.F.Fits.says c.args.self.now.spans.now c.args.self.now.symbol) c.args.self.now.i c.args.self.now.j c.args.before.now c.args.self.now.next.now
    (replicate 256 false) c.if-before-from.row (k + 1) refl (omega arith) turn
