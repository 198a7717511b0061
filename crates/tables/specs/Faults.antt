-- What a fault of a table sheet says.
--   Faulty g b f     the check of the bytes b for the grammar g answers the fault f, with its number and both its places
--   Foremost b n f   so it does where no row below n applies
--   Ranging b p      where no row below 23 applies, the row 23 applies to no byte before the offset p
--   Refused g b f    the check answers f, and the bytes have not both the form and states that match the LR(0) item sets
--   Found g b e      the finding e has the fault that the check answers, and the row of the state that it is in, if it is in one
use Rattle.std.specs.Prelude.{ℕ, List}
use Rattle.parsing.specs.Grammar.{Grammar}
use Rattle.states.specs.Refusals.{outcome}
use Rattle.states.specs.declared.fault.TableFault.{TableFault}
use Rattle.table_format.specs.ItemSets.{Items}
use Rattle.table_format.specs.Tables.{Matches}
use Rattle.table_format.specs.Sheets.{table_of, Form}
use Rattle.table_format.specs.Breaches.{Clean, CleanTo, Checked}
use Rattle.tables.specs.declared.finding.Finding.{Finding}
use Rattle.tables.specs.Trying.{stands_in, RowOf}

abbrev pub Faulty : Grammar → List ℕ → TableFault → Type 0
Faulty g b f = Checked g b (outcome f)

abbrev pub Foremost : List ℕ → ℕ → TableFault → Type 0
Foremost b n f = (g : Grammar) → Clean g b n → Faulty g b f

abbrev pub Ranging : List ℕ → ℕ → Type 0
Ranging b p = (g : Grammar) → Clean g b 23 → CleanTo g b 23 p

pub record Refused (g : Grammar) (b : List ℕ) (f : TableFault) : Type 0 where
  pub checked : Checked g b (outcome f)
  pub never : Form g b × ∥ ((rows : ℕ → Items) × Matches g (table_of b) rows) ∥₁ → ⊥

pub record Found (g : Grammar) (b : List ℕ) (e : Finding) : Type 0 where
  pub refused : Refused g b e.fault
  pub row : RowOf g (table_of b) (stands_in e.fault) e.row
