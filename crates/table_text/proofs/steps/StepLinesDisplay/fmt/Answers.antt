use Rattle.std.proofs.Common.{true, refl, ap, arith}
use Rattle.std.proofs.Output.{has_written_of_eq}
use Rattle.grammar.specs.Meaning.{sheet}
use Rattle.tables.specs.Meaning.{source}
use Rattle.table_text.specs.States.{step_line}
use Rattle.inspection.proofs.Joining.{each_none, each_more}
use Rattle.table_text.proofs.steps.StepLinesDisplay.fmt.Goals as goal

pub loop-symbol-init : goal.loop-symbol-init
loop-symbol-init g c =
    let x = c.args.self.now in
    each_none g.W.Write.write_str_gives (λ X. step_line (sheet x.0.grammar.now) ((source x.0.table.now).next x.0.state X) X) 0 c.args.f.now

pub loop-symbol-preserved : goal.loop-symbol-preserved
loop-symbol-preserved g c = λ plain.
    let x = c.args.self.now in
    let s = sheet x.0.grammar.now in
    let X = c.loop-symbol.symbol in
    let before = c.loop-symbol.invariant plain in
    each_more g.W.Write.write_str_gives (λ X. step_line s ((source x.0.table.now).next x.0.state X) X) 0 c.args.f.now c.loop-symbol.f
    c.write.new.self X (omega arith) before
    (has_written_of_eq g.W.Write.write_str_gives c.loop-symbol.f (step_line s c.next-target.result X) (step_line s ((source x.0.table.now).next x.0.state X) X)
    c.write.new.self (ap (λ o. step_line s o X) c.next-target.ensures)
    (c.in_ok-write.ensures.writes before.plain (refl {a = true})))
