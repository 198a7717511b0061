use Rattle.std.proofs.Common.{◌≡◌, ◌++◌, string_bytes}
use Rattle.std.proofs.lemmas.Result.{IfOk-weaker}
use Rattle.grammar.specs.Meaning.{sheet}
use Rattle.table_inspection.specs.Reports.{FullReport}
use Rattle.table_inspection.proofs.reporting.full_report.Goals as goal

pub returns-in_ok-second-in-Ok : goal.returns-in_ok-second-in-Ok
returns-in_ok-second-in-Ok c =
    let b = c.args.grammar_sheet.now in
    let d = c.args.table_sheet.now in
    let first = string_bytes c.in_ok-first.first in
    let second = string_bytes c.in_ok-second-in-Ok.second in
    let reads = c.in-Ok.ensures in
    IfOk-weaker c.format.result (λ text. string_bytes text ≡ first ++ second) (λ text. FullReport b d (string_bytes text))
    (λ text p. FullReport.both (sheet c.in-Ok.grammar) first second reads.kept reads.same c.in_ok-first.ensures
    c.in_ok-second-in-Ok.ensures p) c.format.ensures.ok

pub returns-in-Err : goal.returns-in-Err
returns-in-Err c = FullReport.grammar_alone c.in-Err.field-0 c.in-Err.ensures c.in_ok-first.ensures
