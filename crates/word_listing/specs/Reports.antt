-- What is reported of the words of a text.
--   Told b xs r       r is right of the text xs and the bytes b: the grammar that they are the sheet of, with the text; or their first refusal
--   report_text r     what is told as text
--   Report b xs out   the text out is what is shown of the text xs by the sheet with the bytes b
use Rattle.std.specs.Prelude.{◌≡◌, ℕ, List, ◌++◌, codes}
use Rattle.grammar_format.specs.Keeping.{Keeps}
use Rattle.grammar_format.specs.Sheets.{Sheet, sheet_bytes}
use Rattle.grammar.specs.Lines.{refusal_line}
use Rattle.grammar.specs.Meaning.{sheet, Reads}
use Rattle.grammar.specs.Refusals.{Refused as RefusedSheet, refusal}
use Rattle.grammar.specs.declared.fault.GrammarFault.{GrammarFault}
use Rattle.words.specs.Texts.{text_coming}
use Rattle.word_listing.specs.Lines.{word_lines}
use Rattle.word_listing.specs.declared.report.TextReport.{TextReport}
use Rattle.word_listing.specs.declared.report.TextReport.TheVariants.{Listed, Refused}

abbrev pub Told : List ℕ → List ℕ → TextReport → Type 0
Told b xs (Listed g text) = Reads b g × (text.now ≡ xs)
Told b xs (Refused f) = RefusedSheet b f

abbrev pub report_text : TextReport → List ℕ
report_text (Listed g text) = word_lines (text_coming (sheet g) 0 text.now)
report_text (Refused f) = refusal_line (refusal f) ++ codes "\n"

-- By a sheet that keeps the rules the words are listed. Any other is refused, by the first refusal that applies.
pub data Report (b xs out : List ℕ) : Type 0 where
  listed : (s : Sheet) → Keeps s → sheet_bytes s ≡ b → out ≡ word_lines (text_coming s 0 xs) → Report b xs out
  refused : (f : GrammarFault) → RefusedSheet b f → out ≡ refusal_line (refusal f) ++ codes "\n" → Report b xs out
