use Rattle.std.proofs.Common.{true, refl, arith}
use Rattle.grammar.specs.Meaning.{sheet}
use Rattle.rows.specs.Rows.{items}
use Rattle.table_text.specs.Items.{rule_items}
use Rattle.inspection.proofs.Joining.{each_none, each_more}
use Rattle.table_text.proofs.row.RowTextDisplay.fmt.Goals as goal

pub loop-rule-init : goal.loop-rule-init
loop-rule-init g c =
    let x = c.args.self.now in
    each_none g.W.Write.write_str_gives (rule_items (sheet x.grammar.now) (items x.row.now)) 0 c.args.f.now

pub loop-rule-preserved : goal.loop-rule-preserved
loop-rule-preserved g c = λ plain.
    let x = c.args.self.now in
    let before = c.loop-rule.invariant plain in
    each_more g.W.Write.write_str_gives (rule_items (sheet x.grammar.now) (items x.row.now)) 0 c.args.f.now c.loop-rule.f
    c.write.new.self c.loop-rule.rule (omega arith) before (c.in_ok-write.ensures.writes before.plain (refl {a = true}))
