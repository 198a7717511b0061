-- The report of a table that passed, from the table.
use Rattle.std.proofs.Common.{◌≡◌, ℕ, List, ◌++◌, length, codes, ap, ◌∙◌, subst}
use Rattle.grammar.specs.Meaning.{sheet, meaning}
use Rattle.grammar.specs.declared.grammar.Grammar.{Grammar}
use Rattle.table_format.specs.Tables.{source_of}
use Rattle.table_format.specs.Sheets.{table_of}
use Rattle.tables.specs.Meaning.{bytes, rows_of, source, Accepted}
use Rattle.tables.specs.declared.table.Table.{Table}
use Rattle.built_states.specs.Built.{Built}
use Rattle.built_states.specs.Writing.{sheet as built_sheet}
use Rattle.built_states.specs.declared.built.BuiltStates.{BuiltStates}
use Rattle.table_text.specs.States.{text_of_table}
use Rattle.table_inspection.specs.Reports.{Passes, passing_line, listing, Supplied, TableReport}
use Rattle.table_inspection.proofs.Writing.{sheet_is}

source_is : (g : Grammar) (b : List ℕ) (t : Table) → Accepted g b t → source t ≡ source_of (meaning g) (table_of b) (rows_of t)
unfolding source
source_is g b t a =
    ap (λ h. source_of (meaning h) (table_of (bytes t)) (rows_of t)) a.over_grammar
    ∙ ap (λ x. source_of (meaning g) (table_of x) (rows_of t)) a.over_bytes

passed : (g : Grammar) (b : List ℕ) (t : Table) → Accepted g b t → Passes (meaning g) b (rows_of t)
passed g b t a = record { checked = a.checked; form = a.form; matches = a.matches }

-- What is written of a table that passed.
abbrev pub text_of : Grammar → Table → List ℕ → ℕ → List ℕ
text_of g t how n = text_of_table (sheet g) (source t) ++ passing_line how n

text_is : (g : Grammar) (b : List ℕ) (t : Table) (how : List ℕ) → Accepted g b t → text_of g t how (length b) ≡ listing (sheet g) b (rows_of t) how
text_is g b t how a = ap (λ src. text_of_table (sheet g) src ++ passing_line how (length b)) (source_is g b t a)

pub supplied_listing : (g : Grammar) (b : List ℕ) (t : Table) → Accepted g b t → Supplied (sheet g) b (text_of g t (codes "supplied") (length b))
supplied_listing g b t a = Supplied.passing (rows_of t) (passed g b t a) (text_is g b t (codes "supplied") a)

pub built_report : (g : Grammar) (states : BuiltStates) (d : List ℕ) (t : Table) (text : List ℕ) → states.grammar ≡ g
    → Built (meaning g) states.building.count states.building.rows states.building.steps → d ≡ built_sheet states → Accepted g d t
    → text ≡ text_of g t (codes "built and written") (length d) → (b : List ℕ) → length b ≡ 0 → TableReport (sheet g) b text
built_report g states d t text same made i a e b none =
    let whole = i ∙ sheet_is g states same in
    TableReport.built states.building.count states.building.rows states.building.steps (rows_of t) none made
    (subst (λ x. Passes (meaning g) x (rows_of t)) whole (passed g d t a))
    (e ∙ text_is g d t (codes "built and written") a ∙ ap (λ x. listing (sheet g) x (rows_of t) (codes "built and written")) whole)
