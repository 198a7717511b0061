use Rattle.std.proofs.Common.{◌≡◌, ◌+◌, ◌-◌, true, refl, arith}
use Rattle.grammar.specs.Meaning.{sheet}
use Rattle.grammar.specs.Questions.{right_length}
use Rattle.rows.specs.Rows.{items}
use Rattle.table_text.specs.Items.{item_line}
use Rattle.inspection.proofs.Joining.{each_none, each_more, each_all}
use Rattle.table_text.proofs.row.RuleItemsDisplay.fmt.Goals as goal

pub loop-dot-init : goal.loop-dot-init
loop-dot-init g c =
    let x = c.args.self.now in
    each_none g.W.Write.write_str_gives (item_line (sheet x.text.grammar.now) (items x.text.row.now) x.rule) 0 c.args.f.now

pub loop-dot-preserved : goal.loop-dot-preserved
loop-dot-preserved g c = λ plain.
    let x = c.args.self.now in
    let before = c.loop-dot.invariant plain in
    each_more g.W.Write.write_str_gives (item_line (sheet x.text.grammar.now) (items x.text.row.now) x.rule) 0 c.args.f.now c.loop-dot.f
    c.write.new.self c.loop-dot.dot (omega arith) before (c.in_ok-write.ensures.writes before.plain (refl {a = true}))

pub returns-in_ok-write-clause-writes : goal.returns-in_ok-write-clause-writes
returns-in_ok-write-clause-writes g c = λ plain ok.
    let x = c.args.self.now in
    let s = sheet x.text.grammar.now in
    let before = c.loop-dot.invariant plain in
    let n : c.loop-dot.dot + 1 - 0 ≡ right_length s.grammar x.rule + 1 = omega (arith, c.from-dot-end.ensures, c.length.ensures) in
    each_all g.W.Write.write_str_gives (item_line s (items x.text.row.now) x.rule) 0 c.args.f.now c.write.new.self (c.loop-dot.dot + 1)
    (right_length s.grammar x.rule + 1) n
    (each_more g.W.Write.write_str_gives (item_line s (items x.text.row.now) x.rule) 0 c.args.f.now c.loop-dot.f c.write.new.self
    c.loop-dot.dot (omega arith) before (c.in_ok-write.ensures.writes before.plain (refl {a = true})))
