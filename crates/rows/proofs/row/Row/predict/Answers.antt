use Rattle.std.proofs.Common.{◌≡◌, ◌<◌, sym, ap, ◌∙◌, inl, inr, arith}
use Rattle.parsing.specs.Grammar.{rule_count, lhs}
use Rattle.grammar.specs.Meaning.{meaning}
use Rattle.rows.specs.Rows.{items, member}
use Rattle.rows.proofs.Grammars.{few_rules, left_is}
use Rattle.rows.proofs.Nexts.{told_next, told_none, nexts_more}
use Rattle.rows.proofs.Passes.{first_turn, added_turn, idle_turn}
use Rattle.rows.proofs.row.Row.predict.Goals as goal
use Rattle.rows.proofs.row.Row.predict.Goals.{then-has+then-not-holds, else-has, else-has-via-then-has+else-not-holds, else-has-via-else-has}

pub loop-rule-init : goal.loop-rule-init
loop-rule-init c = first_turn (meaning c.args.grammar.now) (items c.args.self.now) (member c.args.next.now) c.requires

pub loop-rule-preserved : goal.loop-rule-preserved
loop-rule-preserved c =
    let k = c.args.grammar.now in
    let q = c.loop-rule.rule in
    let u = items c.args.self.now in
    let v = items c.loop-rule.self in
    let S = member c.loop-rule.next in
    let h : q < rule_count (meaning k) = omega arith in
    let e : c.from.result ≡ lhs (meaning k) q = c.from.ensures ∙ c.left.ensures ∙ left_is k q h in
    elim c.if-has.branch [
      | then-has+then-not-holds w ↦
          let z = w.add-then-not-holds in
          rw (w.self-is, w.next-is, w.added-is)
          (added_turn (meaning k) u v (items w.add.new.self) S (member z.new.self) c.loop-rule.added q (omega (arith, few_rules k)) h
          c.loop-rule.invariant (sym w.if-not-holds.ensures)
          (told_next (meaning k) v S (lhs (meaning k) q) c.loop-rule.invariant.next (ap S (sym e) ∙ sym w.if-has.ensures))
          w.add.ensures
          (nexts_more k v (items w.add.new.self) S (member z.new.self) q w.right.result h c.loop-rule.invariant.next w.add.ensures
          w.right.ensures z.ensures))
      | else-has w ↦
          rw (w.self-is, w.next-is, w.added-is)
          (idle_turn (meaning k) u v S c.loop-rule.added q c.loop-rule.invariant
          (elim w.else-has.branch [
            | else-has-via-then-has+else-not-holds x ↦ inl (sym x.if-not-holds.ensures)
            | else-has-via-else-has x ↦ inr (told_none (meaning k) v S (lhs (meaning k) q) c.loop-rule.invariant.next (ap S (sym e) ∙ sym x.if-has.ensures))
          ]))
    ]
