-- What is reported of a table sheet for a grammar.
--   Passes g b rows          the bytes b pass their check for the grammar g, and have the form; their states match the LR(0) item sets, with these rows
--   passing_line how n       that the n bytes of a sheet that came about in this way pass their check
--   explained s b e w        the refusal of the finding e of the bytes b, and its explanation, where the row w is wanted
--   listing s b rows how     the table that the bytes b say, with these rows, and that it passes
--   too_many_states          the finding that the grammar has more than 255 item sets
--   verdict_text v           the verdict v as text
--   Supplied s b text        the text says that the bytes b pass as a table for the grammar of the sheet s, or their first fault
--   TableReport s b text     the text is a report of the bytes b as a table for the grammar of the sheet s
--   FullReport b c text      the text is a report of the bytes b as a grammar sheet, and of the bytes c as a table for that grammar
use Rattle.std.specs.Prelude.{◌≡◌, ℕ, ◌≢◌, List, ◌++◌, None, Option, length, codes, decimal}
use Rattle.parsing.specs.Grammar.{Grammar}
use Rattle.grammar_format.specs.Sheets.{Sheet, sheet_bytes}
use Rattle.grammar_format.specs.Keeping.{Keeps}
use Rattle.grammar.specs.Refusals.{Refused as RefusedGrammar}
use Rattle.grammar.specs.declared.fault.GrammarFault.{GrammarFault}
use Rattle.grammar.specs.Lines.{refusal_line}
use Rattle.inspection.specs.Reports.{Report}
use Rattle.rows.specs.declared.row.Row.{Row}
use Rattle.grammar.specs.declared.refusal.Refusal.{Refusal}
use Rattle.grammar.specs.Meaning.{sheet}
use Rattle.states.specs.Refusals.{refusal}
use Rattle.states.specs.declared.fault.TableFault.TheVariants.{TooManyStates}
use Rattle.table_format.specs.ItemSets.{Items}
use Rattle.table_format.specs.Tables.{Matches, source_of}
use Rattle.table_format.specs.Walks.{passes}
use Rattle.table_format.specs.Sheets.{table_of, table_bytes, Form}
use Rattle.table_format.specs.Breaches.{Checked}
use Rattle.tables.specs.Faults.{Found}
use Rattle.tables.specs.Meaning.{source}
use Rattle.tables.specs.declared.finding.Finding.{Finding}
use Rattle.built_states.specs.Built.{built_table, Built, Many}
use Rattle.table_text.specs.States.{text_of_table}
use Rattle.table_explanation.specs.Explanations.{explanation, symbol_in, WantedOf}
use Rattle.table_inspection.specs.declared.verdict.TableVerdict.{TableVerdict}
use Rattle.table_inspection.specs.declared.verdict.TableVerdict.TheVariants.{Passing, Refused}

pub record Passes (g : Grammar) (b : List ℕ) (rows : ℕ → Items) : Type 0 where
  pub checked : Checked g b passes
  pub form : Form g b
  pub matches : Matches g (table_of b) rows

abbrev pub passing_line : List ℕ → ℕ → List ℕ
passing_line how n = how ++ (codes ": " ++ (decimal n ++ codes " bytes, they pass the check\n"))

abbrev pub listing : Sheet → List ℕ → (ℕ → Items) → List ℕ → List ℕ
listing s b rows how = text_of_table s (source_of s.grammar (table_of b) rows) ++ passing_line how (length b)

abbrev pub refusal_text : Refusal → List ℕ → List ℕ
refusal_text r words = refusal_line r ++ (codes "\n" ++ words)

abbrev pub explained : Sheet → List ℕ → Finding → Option Row → List ℕ
explained s b e w = refusal_text (refusal e.fault) (explanation s b e.fault e.row w)

abbrev pub too_many_states : Finding
too_many_states = record { fault = TooManyStates; row = None }

abbrev pub verdict_text : TableVerdict → List ℕ
verdict_text (Passing g t how n) = text_of_table (sheet g.now) (source t) ++ passing_line how.now n
verdict_text (Refused x) = explained (sheet x.grammar.now) x.sheet.now x.finding x.wanted

pub data Supplied (s : Sheet) (b text : List ℕ) : Type 0 where
  -- Bytes that pass are listed whole.
  passing : (rows : ℕ → Items) → Passes s.grammar b rows → text ≡ listing s b rows (codes "supplied") → Supplied s b text
  -- Others are refused in the first line, by the fault that the check comes to first, and explained.
  refused : (e : Finding) (w : Option Row) → Found s.grammar b e → WantedOf s.grammar (symbol_in e.fault) e.row w → text ≡ explained s b e w
      → Supplied s b text

pub data TableReport (s : Sheet) (b text : List ℕ) : Type 0 where
  supplied : length b ≢ 0 → Supplied s b text → TableReport s b text
  -- Without bytes the states are built. What is written of them passes, and is listed.
  built : (n : ℕ) (ws : List Row) (steps : List (List (Option ℕ))) (rows : ℕ → Items) → length b ≡ 0 → Built s.grammar n ws steps
      → Passes s.grammar (table_bytes s.grammar (built_table s.grammar n ws steps)) rows
      → text ≡ listing s (table_bytes s.grammar (built_table s.grammar n ws steps)) rows (codes "built and written") → TableReport s b text
  -- A grammar with more than 255 item sets has no table.
  too_many : length b ≡ 0 → Many s.grammar → text ≡ explained s b too_many_states None → TableReport s b text

pub data FullReport (b c text : List ℕ) : Type 0 where
  both : (s : Sheet) (first second : List ℕ) → Keeps s → sheet_bytes s ≡ b → Report b first → TableReport s c second → text ≡ first ++ second
      → FullReport b c text
  -- Where the grammar is refused, the table is not looked at.
  grammar_alone : (f : GrammarFault) → RefusedGrammar b f → Report b text → FullReport b c text
