-- The text of what is told is the report.
use Rattle.std.proofs.Common.{◌≡◌, ℕ, List, ap, ◌∙◌}
use Rattle.grammar.specs.Meaning.{sheet}
use Rattle.words.specs.Texts.{text_coming}
use Rattle.word_listing.specs.Lines.{word_lines}
use Rattle.word_listing.specs.Reports.{Told, report_text, Report}
use Rattle.word_listing.specs.declared.report.TextReport.{TextReport}
use Rattle.word_listing.specs.declared.report.TextReport.TheVariants.{Listed, Refused}

pub reported : (b xs : List ℕ) (r : TextReport) (out : List ℕ) → Told b xs r → out ≡ report_text r → Report b xs out
reported b xs (Listed g text) out h e = Report.listed (sheet g) h.0.kept h.0.same (e ∙ ap (λ ys. word_lines (text_coming (sheet g) 0 ys)) h.1)
reported b xs (Refused f) out h e = Report.refused f h e
