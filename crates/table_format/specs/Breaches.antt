-- The rows of the table of refusals that tell of the form of a table sheet, which of them comes first, and what the check of a sheet answers.
--   FormBreach g b n p   the row n applies to the bytes b at the place p
--   CleanTo g b n p      no row applies before the row n at the place p
--   Clean g b n          no row below n applies anywhere
--   First g b n p        the row n at the place p is the first that applies
--   Checked g b o        the check of the bytes b for the grammar g answers o
use Rattle.std.specs.Prelude.{ℕ, ◌<◌, ◌≤◌, ◌≢◌, List, length, slice_index}
use Rattle.parsing.specs.Grammar.{Grammar, rule_count}
use Rattle.grammar_format.specs.Fields.{number}
use Rattle.grammar_format.specs.Breaches.{Before}
use Rattle.table_format.specs.ItemSets.{symbols}
use Rattle.table_format.specs.Walks.{Outcome, refuses, Walk}
use Rattle.table_format.specs.Sheets.{states_told, symbols_told, rules_told, marks_at, ends_at, table_of}

pub data FormBreach (g : Grammar) (b : List ℕ) : ℕ → ℕ → Type 0 where
  short : length b < 12 → FormBreach g b 20 0
  other_length : number b 0 ≢ length b → FormBreach g b 20 0
  few_states : states_told b < 1 → FormBreach g b 21 0
  many_states : 255 < states_told b → FormBreach g b 21 0
  other_symbols : symbols_told b ≢ symbols g → FormBreach g b 21 0
  other_rules : rules_told b ≢ rule_count g → FormBreach g b 21 0
  steps_offset : number b 8 ≢ 12 → FormBreach g b 22 0
  marks_offset : number b 10 ≢ marks_at (states_told b) (symbols_told b) → FormBreach g b 22 0
  uncounted : length b ≢ ends_at (states_told b) (symbols_told b) (rules_told b) → FormBreach g b 22 0
  -- The place is the offset of the byte.
  step_byte : {p : ℕ} → 12 ≤ p → p < marks_at (states_told b) (symbols_told b)
      → slice_index b p ≢ 255 → states_told b ≤ slice_index b p → FormBreach g b 23 p
  mark_byte : {p : ℕ} → marks_at (states_told b) (symbols_told b) ≤ p → p < ends_at (states_told b) (symbols_told b) (rules_told b)
      → 1 < slice_index b p → FormBreach g b 23 p

abbrev pub CleanTo : Grammar → List ℕ → ℕ → ℕ → Type 0
CleanTo g b n p = (m q : ℕ) → Before m q n p → FormBreach g b m q → ⊥

abbrev pub Clean : Grammar → List ℕ → ℕ → Type 0
Clean g b n = CleanTo g b n 0

pub record First (g : Grammar) (b : List ℕ) (n p : ℕ) : Type 0 where
  pub applies : FormBreach g b n p
  pub before : CleanTo g b n p

-- Where no row of the form applies, the walk over the table decides.
pub data Checked (g : Grammar) (b : List ℕ) : Outcome → Type 0 where
  by_form : {n p : ℕ} → First g b n p → Checked g b (refuses n p 0)
  by_walk : {o : Outcome} → Clean g b 24 → Walk g (table_of b) o → Checked g b o
