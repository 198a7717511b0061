use Rattle.std.proofs.Common.{◌≡◌, string_bytes}
use Rattle.std.proofs.lemmas.Result.{IfOk-weaker}
use Rattle.panel.specs.Answers.{outcome}
use Rattle.panel.specs.Lines.{lines}
use Rattle.panel.specs.Outcomes.{KeyOutcome, Shows}
use Rattle.panel.proofs.showing.read_keys.Goals as goal

pub returns : goal.returns
returns c =
    let a = c.args.grammar_sheet.now in
    let b = c.args.table_sheet.now in
    let xs = c.args.keys.now in
    let o = outcome c.answer_keys.result in
    IfOk-weaker c.shown.result (λ text. string_bytes text ≡ lines o) (λ text. Shows (KeyOutcome a b xs) (string_bytes text))
    (λ text p. record { outcome = o; so = c.answer_keys.ensures; text_is = p }) c.shown.ensures
