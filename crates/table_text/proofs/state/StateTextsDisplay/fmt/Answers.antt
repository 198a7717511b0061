use Rattle.std.proofs.Common.{true, refl, arith}
use Rattle.grammar.specs.Meaning.{sheet}
use Rattle.tables.specs.Meaning.{source}
use Rattle.table_text.specs.States.{state_part}
use Rattle.inspection.proofs.Joining.{each_none, each_more}
use Rattle.table_text.proofs.state.StateTextsDisplay.fmt.Goals as goal

pub loop-state-init : goal.loop-state-init
loop-state-init g c =
    let x = c.args.self.now in
    each_none g.W.Write.write_str_gives (state_part (sheet x.0.grammar.now) (source x.0.table.now)) 0 c.args.f.now

pub loop-state-preserved : goal.loop-state-preserved
loop-state-preserved g c = λ plain.
    let x = c.args.self.now in
    let before = c.loop-state.invariant plain in
    each_more g.W.Write.write_str_gives (state_part (sheet x.0.grammar.now) (source x.0.table.now)) 0 c.args.f.now c.loop-state.f
    c.write.new.self c.loop-state.state (omega arith) before (c.in_ok-write.ensures.writes before.plain (refl {a = true}))
