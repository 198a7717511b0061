use Rattle.std.proofs.Common.{◌+◌, Bool, false, List, replicate, sym, refl, subst, arith}
use Rattle.forest.specs.Marks.{Added}
use Rattle.forest.proofs.Rows.{here, not_here, Reach, reach_taken, reach_passed, reach_all}
use Rattle.forest.proofs.part.Part.begins.Goals as goal
use Rattle.forest.proofs.part.Part.begins.Goals.{then-self-from, else-self-from}

pub loop-b-preserved : goal.loop-b-preserved
loop-b-preserved g c =
    let h = g.F.Fits.says c.args.self.now.spans.now c.args.self.now.symbol in
    let forward = g.met.F.Fits.forward c.args.self.now.spans.now c.args.self.now.symbol in
    let k = c.loop-b.b in
    let G : List Bool → Type 0 = λ row. Added (Reach h forward c.args.self.now.i c.args.self.now.j c.args.self.now.next.now (k + 1)) (replicate 256 false) row in
    elim c.if-self-from.branch [
      | then-self-from w ↦ subst G (sym w.row-is)
          (reach_taken h forward c.args.self.now.i c.args.self.now.j c.args.self.now.next.now (replicate 256 false) c.loop-b.row w.mark_begins.new.row k
          (omega arith) (here c.args.self.now.next.now _ k c.from.ensures w.if-self-from.true) c.loop-b.invariant w.mark_begins.ensures)
      | else-self-from w ↦ subst G (sym w.row-is)
          (reach_passed h forward c.args.self.now.i c.args.self.now.j c.args.self.now.next.now (replicate 256 false) c.loop-b.row k
          (not_here c.args.self.now.next.now _ k c.from.ensures w.if-self-from.false) c.loop-b.invariant)
    ]

pub returns : goal.returns
returns g c =
    reach_all (g.F.Fits.says c.args.self.now.spans.now c.args.self.now.symbol) (g.met.F.Fits.forward c.args.self.now.spans.now c.args.self.now.symbol) c.args.self.now.i c.args.self.now.j c.args.self.now.next.now
    (replicate 256 false) c.loop-b.row c.loop-b.b refl (omega arith) c.loop-b.invariant

pub returns-after-self-from : goal.returns-after-self-from
returns-after-self-from g c =
    let h = g.F.Fits.says c.args.self.now.spans.now c.args.self.now.symbol in
    let forward = g.met.F.Fits.forward c.args.self.now.spans.now c.args.self.now.symbol in
    let k = c.loop-b.b in
    let G : List Bool → Type 0 = λ row. Added (Reach h forward c.args.self.now.i c.args.self.now.j c.args.self.now.next.now (k + 1)) (replicate 256 false) row in
    let turn : G c.if-self-from.row =
    elim c.if-self-from.branch [
      | then-self-from w ↦ subst G (sym w.row-is)
          (reach_taken h forward c.args.self.now.i c.args.self.now.j c.args.self.now.next.now (replicate 256 false) c.loop-b.row w.mark_begins.new.row k
          (omega arith) (here c.args.self.now.next.now _ k c.from.ensures w.if-self-from.true) c.loop-b.invariant w.mark_begins.ensures)
      | else-self-from w ↦ subst G (sym w.row-is)
          (reach_passed h forward c.args.self.now.i c.args.self.now.j c.args.self.now.next.now (replicate 256 false) c.loop-b.row k
          (not_here c.args.self.now.next.now _ k c.from.ensures w.if-self-from.false) c.loop-b.invariant)
    ] in
    reach_all (g.F.Fits.says c.args.self.now.spans.now c.args.self.now.symbol) (g.met.F.Fits.forward c.args.self.now.spans.now c.args.self.now.symbol) c.args.self.now.i c.args.self.now.j c.args.self.now.next.now
    (replicate 256 false) c.if-self-from.row (k + 1) refl (omega arith) turn
