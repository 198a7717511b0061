use Rattle.std.proofs.Common.{◌<◌, length, sym, arith}
use Rattle.parsing.specs.Grammar.{rhs}
use Rattle.grammar.specs.Meaning.{meaning}
use Rattle.rows.specs.Rows.{items, member}
use Rattle.rows.proofs.Grammars.{length_is, right_next, right_below}
use Rattle.rows.proofs.Nexts.{gather_join, gather_skip}
use Rattle.rows.proofs.row.Row.gather.Goals as goal
use Rattle.rows.proofs.row.Row.gather.Goals.{then-holds, else-holds}

pub loop-dot-preserved : goal.loop-dot-preserved
loop-dot-preserved c =
    let k = c.args.grammar.now in
    let r = c.args.rule in
    let d = c.loop-dot.dot in
    let v = items c.args.self.now in
    let S = member c.args.next.now in
    let M = member c.loop-dot.next in
    let l : d < length (rhs (meaning k) r) = omega (arith, length_is k r c.requires) in
    elim c.if-holds.branch [
      | then-holds w ↦
          rw w.next-is
          (gather_join (meaning k) v r S M (member w.add.new.self) d w.right.result c.loop-dot.invariant (sym w.if-holds.ensures)
          (right_next k r c.requires d w.right.result l w.right.ensures) (omega (arith, w.right.ensures, right_below k r c.requires d l))
          w.add.ensures)
      | else-holds w ↦ rw w.next-is (gather_skip (meaning k) v r S M d c.loop-dot.invariant (sym w.if-holds.ensures))
    ]
