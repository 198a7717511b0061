use Rattle.std.proofs.Common.{◌≡◌, ℕ, true, List, ◌++◌, length, string_bytes, codes, ap, ◌∙◌}
use Rattle.std.proofs.lemmas.Result.{IfOk-weaker}
use Rattle.grammar.specs.Lines.{refusal_line}
use Rattle.grammar.specs.Meaning.{sheet}
use Rattle.inspection.specs.Listings.{listing}
use Rattle.inspection.specs.Reports.{Report, closing_line, report_text}
use Rattle.inspection.proofs.reporting.report.Goals as goal

pub returns-in-Listed : goal.returns-in-Listed
returns-in-Listed c =
    let b = c.args.sheet.now in
    let s = sheet c.in-Listed.grammar in
    let told = c.in-Listed.ensures in
    let whole : report_text c.of-told.result ≡ listing s ++ closing_line (length b) true = ap report_text c.in-Listed.is ∙ (λ i. listing s ++ closing_line (told.1 i) (told.2 i)) in
    IfOk-weaker c.to_string.result (λ text. string_bytes text ≡ report_text c.of-told.result)
    (λ text. Report b (string_bytes text)) (λ text p. Report.listed s told.0.kept told.0.same (p ∙ whole)) c.to_string.ensures.ok

pub returns-in-Refused : goal.returns-in-Refused
returns-in-Refused c =
    let b = c.args.sheet.now in
    let f = c.in-Refused.fault in
    IfOk-weaker c.refusal_report.result (λ text. (words : List ℕ) × (string_bytes text ≡ refusal_line c.refusal.result ++ (codes "\n" ++ words)))
    (λ text. Report b (string_bytes text))
    (λ text p. Report.refused f p.0 c.in-Refused.ensures (p.1 ∙ ap (λ r. refusal_line r ++ (codes "\n" ++ p.0)) c.refusal.ensures)) c.refusal_report.ensures
