use Rattle.std.proofs.Common.{◌∙◌}
use Rattle.std.proofs.lemmas.Bool.{lt-ltb}
use Rattle.grammar.proofs.Marking.{terminals_sound, marks_tell}
use Rattle.grammar.proofs.marks.productive.Goals as goal

pub loop-init : goal.loop-init
loop-init c = (
  (λ X h. h),
  (λ N. terminals_sound c.args.header.terminals N c.args.rules.now c.mark_terminals-marks.result c.mark_terminals-marks.ensures),
)

pub returns : goal.returns
returns c =
    let last = c.loop-test.ensures in
    λ N. marks_tell c.args.header.terminals N c.args.rules.now c.spread.new.marks
    (λ t h. last.within t (c.loop.invariant.0 t (c.mark_terminals-marks.ensures t ∙ lt-ltb t c.args.header.terminals h)))
    (last.sound c.args.header.terminals N (c.loop.invariant.1 N))
    last.cases.1
