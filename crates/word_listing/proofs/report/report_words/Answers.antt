use Rattle.std.proofs.Common.{◌≡◌, string_bytes}
use Rattle.std.proofs.lemmas.Result.{IfOk-weaker}
use Rattle.word_listing.specs.Reports.{Report, report_text}
use Rattle.word_listing.proofs.Reporting.{reported}
use Rattle.word_listing.proofs.report.report_words.Goals as goal

pub returns : goal.returns
returns c =
    let b = c.args.sheet.now in
    let xs = c.args.text.now in
    IfOk-weaker c.to_string.result (λ out. string_bytes out ≡ report_text c.of.result)
    (λ out. Report b xs (string_bytes out)) (λ out p. reported b xs c.of.result (string_bytes out) c.of.ensures p) c.to_string.ensures.ok
