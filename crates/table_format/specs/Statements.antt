-- The theorems on tables of states and on their sheets.
--   Exactness          a walk passes exactly when the states match the LR(0) item sets
--   Determinacy        a walk has one outcome
--   Lawfulness         a table whose states match is a lawful source of states, and answers nothing outside the ranges
--   OneSource          a table whose states match with some rows and with others is one source of states
--   Counting           a table whose states match has as many states as there are LR(0) item sets
--   SheetExactness     a check of a sheet passes exactly when the sheet has the form and its states match
--   SheetDeterminacy   a check of a sheet has one outcome
--   Writing            what is written of a table whose states match passes, and says that table
--   Reading            a sheet that has the form is what is written of the table that it says
--   Witness            some sheet passes
use Rattle.std.specs.Prelude.{◌≡◌, ℕ, ◌≤◌, ◌↔◌, List, length}
use Rattle.parsing.specs.Grammar.{Grammar, rule_count}
use Rattle.parsing.specs.Items.{Lawful}
use Rattle.grammar_format.specs.Fields.{listed}
use Rattle.grammar_format.specs.Statements.{Bytes}
use Rattle.table_format.specs.ItemSets.{Items, symbols, RightSides}
use Rattle.table_format.specs.Tables.{Table, Ranged, Matches, Alike, EachOnce, source_of, Bounded}
use Rattle.table_format.specs.Walks.{Outcome, passes, Walk}
use Rattle.table_format.specs.Sheets.{table_of, table_bytes, Form}
use Rattle.table_format.specs.Breaches.{Checked}
use Rattle.table_format.specs.Example.{one, one_sheet}

abbrev pub Exactness : Type 0
Exactness = (g : Grammar) (t : Table) → RightSides g → Ranged g t
    → (o : Outcome) → Walk g t o → (o ≡ passes) ↔ ((rows : ℕ → Items) × Matches g t rows)

abbrev pub Determinacy : Type 0
Determinacy = (g : Grammar) (t : Table) → Ranged g t → (o p : Outcome) → Walk g t o → Walk g t p → o ≡ p

abbrev pub Lawfulness : Type 0
Lawfulness = (g : Grammar) (t : Table) (rows : ℕ → Items) → RightSides g → t.states ≤ 255 → Matches g t rows
    → Lawful (source_of g t rows) × Bounded (source_of g t rows)

abbrev pub OneSource : Type 0
OneSource = (g : Grammar) (t : Table) (rows others : ℕ → Items) → RightSides g → Matches g t rows → Matches g t others
    → source_of g t rows ≡ source_of g t others

-- The rows of the states hold each item set once, and every list that does so is as long.
abbrev pub Counting : Type 0
Counting = (g : Grammar) (t : Table) (rows : ℕ → Items) → Matches g t rows
    → EachOnce g (listed rows t.states) × ((ws : List Items) → EachOnce g ws → length ws ≡ t.states)

abbrev pub SheetExactness : Type 0
SheetExactness = (g : Grammar) → RightSides g → (b : List ℕ) (o : Outcome) → Checked g b o
    → (o ≡ passes) ↔ (Form g b × ∥ ((rows : ℕ → Items) × Matches g (table_of b) rows) ∥₁)

abbrev pub SheetDeterminacy : Type 0
SheetDeterminacy = (g : Grammar) (b : List ℕ) (o p : Outcome) → Checked g b o → Checked g b p → o ≡ p

abbrev pub Writing : Type 0
Writing = (g : Grammar) → RightSides g → symbols g ≤ 64 → rule_count g ≤ 64
    → (t : Table) (rows : ℕ → Items) → t.states ≤ 255 → Matches g t rows
    → Checked g (table_bytes g t) passes × Alike g (table_of (table_bytes g t)) t × Bytes (table_bytes g t)

abbrev pub Reading : Type 0
Reading = (g : Grammar) (b : List ℕ) → Bytes b → Form g b → table_bytes g (table_of b) ≡ b

abbrev pub Witness : Type 0
Witness = RightSides one × Checked one one_sheet passes
