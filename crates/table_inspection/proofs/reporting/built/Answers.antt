use Rattle.std.proofs.Common.{◌≡◌, ℕ, None, List, length, ◌∙◌}
use Rattle.std.proofs.lemmas.Result.{IfOk-weaker}
use Rattle.grammar.specs.Meaning.{sheet, meaning}
use Rattle.table_inspection.specs.Reports.{verdict_text, TableReport}
use Rattle.table_inspection.proofs.Refusing.{explains, too_many_text}
use Rattle.table_inspection.proofs.reporting.built.Goals as goal

pub returns-in-Ok : goal.returns-in-Ok
returns-in-Ok c =
    let g = c.args.grammar.now in
    let b = c.args.sheet.now in
    IfOk-weaker c.built_listed.result (λ v. (b : List ℕ) → length b ≡ 0 → TableReport (sheet g) b (verdict_text v))
    (λ v. TableReport (sheet g) b (verdict_text v)) (λ v p. p b c.requires) c.built_listed.ensures

pub returns-in-Err : goal.returns-in-Err
returns-in-Err c =
    let g = c.args.grammar.now in
    let b = c.args.sheet.now in
    let x = c.of.result in
    let f = c.in-Err.fault in
    let many = c.in-Err.ensures in
    TableReport.too_many c.requires many.1
    (explains x g b (record { fault = f; row = None }) c.of.ensures.grammar c.of.ensures.sheet c.of.ensures.finding
    ∙ too_many_text (meaning g) (sheet g) b f x.wanted many.0 c.of.ensures.wanted)
