-- What is reported of a sheet.
--   verdict_text b     whether what was written back is the sheet
--   closing_line n b   that n bytes were written back, and the verdict
--   Told b r           r is right of the bytes b: the grammar that they are the sheet of, written back; or their first refusal
--   report_text r      what is told as text
--   Report b text      the text is a report of the bytes b
use Rattle.std.specs.Prelude.{◌≡◌, ℕ, Bool, true, false, List, ◌++◌, length, codes, decimal}
use Rattle.grammar_format.specs.Sheets.{Sheet, sheet_bytes}
use Rattle.grammar_format.specs.Keeping.{Keeps}
use Rattle.grammar.specs.Meaning.{sheet, Reads}
use Rattle.grammar.specs.Refusals.{Refused as RefusedSheet, refusal}
use Rattle.grammar.specs.declared.fault.GrammarFault.{GrammarFault}
use Rattle.grammar.specs.Lines.{refusal_line}
use Rattle.inspection.specs.Listings.{listing}
use Rattle.inspection.specs.declared.reporting.SheetReport.{SheetReport}
use Rattle.inspection.specs.declared.reporting.SheetReport.TheVariants.{Listed, Refused}

abbrev pub verdict_text : Bool → List ℕ
verdict_text true = codes "equal to the sheet"
verdict_text false = codes "not equal to the sheet"

abbrev pub closing_line : ℕ → Bool → List ℕ
closing_line n same = codes "written back: " ++ (decimal n ++ (codes " bytes, " ++ (verdict_text same ++ codes "\n")))

abbrev pub Told : List ℕ → SheetReport → Type 0
Told b (Listed g n same) = Reads b g × (n ≡ length b) × (same ≡ true)
Told b (Refused f) = RefusedSheet b f

abbrev pub report_text : SheetReport → List ℕ
report_text (Listed g n same) = listing (sheet g) ++ closing_line n same
report_text (Refused f) = refusal_line (refusal f) ++ codes "\n"

-- A sheet that keeps the rules is listed whole. Any other is refused in the first line, by the first refusal that applies, and
-- explained in some words.
pub data Report (b text : List ℕ) : Type 0 where
  listed : (s : Sheet) → Keeps s → sheet_bytes s ≡ b → text ≡ listing s ++ closing_line (length b) true → Report b text
  refused : (f : GrammarFault) (words : List ℕ) → RefusedSheet b f → text ≡ refusal_line (refusal f) ++ (codes "\n" ++ words) → Report b text
