use Rattle.std.proofs.Common.{◌<◌, length, sym, ◌∙◌, arith}
use Rattle.std.proofs.lemmas.Bool.{both_ways}
use Rattle.parsing.specs.Grammar.{rhs}
use Rattle.grammar.specs.Meaning.{meaning}
use Rattle.rows.specs.Rows.{items}
use Rattle.rows.proofs.Grammars.{length_is, right_is, right_next}
use Rattle.rows.proofs.Stepping.{sweep_move, sweep_skip}
use Rattle.rows.proofs.row.Row.sweep.Goals as goal
use Rattle.rows.proofs.row.Row.sweep.Goals.{then-holds+then-from-symbol, else-holds, else-holds-via-then-holds+else-from-symbol, else-holds-via-else-holds}

pub loop-dot-preserved : goal.loop-dot-preserved
loop-dot-preserved c =
    let k = c.args.grammar.now in
    let X = c.args.symbol in
    let r = c.args.rule in
    let d = c.loop-dot.dot in
    let v = items c.args.self.now in
    let u = items c.args.into.now in
    let l : d < length (rhs (meaning k) r) = omega (arith, length_is k r c.requires) in
    elim c.if-holds.branch [
      | then-holds+then-from-symbol w ↦
          rw w.into-is
          (sweep_move (meaning k) v X r u (items c.loop-dot.into) (items w.add.new.self) d c.loop-dot.invariant (sym w.if-holds.ensures)
          (right_next k r c.requires d X l (sym w.if-from-symbol.true ∙ w.from.ensures ∙ w.right.ensures)) w.add.ensures)
      | else-holds w ↦
          rw w.into-is
          (sweep_skip (meaning k) v X r u (items c.loop-dot.into) d c.loop-dot.invariant
          (elim w.else-holds.branch [
            | else-holds-via-then-holds+else-from-symbol x ↦
                λ p n. x.if-from-symbol.false (x.from.ensures ∙ x.right.ensures ∙ right_is k r c.requires d l ∙ n.symbol)
            | else-holds-via-else-holds x ↦ λ p n. both_ways (v r d) (sym x.if-holds.ensures) p
          ]))
    ]
