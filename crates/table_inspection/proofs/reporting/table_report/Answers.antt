use Rattle.std.proofs.Common.{◌≡◌, false, ◌≢◌, length, string_bytes, sym, refl, ◌∙◌, eq-eqb, eqb-true, subst}
use borrow.Author.Tests.{both_ways}
use Rattle.std.proofs.lemmas.Result.{IfOk-weaker}
use Rattle.grammar.specs.Meaning.{sheet}
use Rattle.table_inspection.specs.Reports.{verdict_text, Supplied, TableReport}
use Rattle.table_inspection.proofs.reporting.table_report.Goals as goal

pub built-requires : goal.built-requires
built-requires c = eqb-true _ _ (sym c.if-is_empty.ensures)

pub returns-then-is_empty : goal.returns-then-is_empty
returns-then-is_empty c =
    let g = c.args.grammar.now in
    let b = c.args.sheet.now in
    let v = c.in_ok-verdict.verdict in
    IfOk-weaker c.to_string.result (λ text. string_bytes text ≡ verdict_text v) (λ text. TableReport (sheet g) b (string_bytes text))
    (λ text p. subst (TableReport (sheet g) b) (sym p) c.in_ok-verdict.ensures) c.to_string.ensures.ok

pub returns : goal.returns
returns c =
    let g = c.args.grammar.now in
    let b = c.args.sheet.now in
    let some : length b ≢ 0 = λ e. both_ways false refl (c.if-is_empty.ensures ∙ eq-eqb (length b) 0 e) in
    IfOk-weaker c.to_string-2.result (λ text. string_bytes text ≡ verdict_text c.supplied.result) (λ text. TableReport (sheet g) b (string_bytes text))
    (λ text p. TableReport.supplied some (subst (Supplied (sheet g) b) (sym p) c.supplied.ensures)) c.to_string-2.ensures.ok
