-- A built table of states.
--   row_items ws k         the items of the row in place k
--   entry ss s X           the step of the state s by the symbol X in the steps ss; step_byte o, the byte that stands for it, 255 for none
--   built_table g n ws ss  the table of n states with the rows ws and the steps ss
--   Stepped n ss           every step in ss leads to a state below n
--   known_rows n ws        the states below n as the walk knows them: each in the place of its number
--   Built g n ws ss        the n states with these rows and steps match the LR(0) item sets of g, and the walk meets them in their order
--   Many g                 the grammar g has more than 255 LR(0) item sets
--   TooMany g e            the fault e is refused as 30, and g has that many
use Rattle.std.specs.Prelude.{◌≡◌, ℕ, ◌<◌, ◌≤◌, List, [], Some, None, Option, slice_index_or}
use Rattle.std.specs.Option.{unwrap_or}
use Rattle.parsing.specs.Grammar.{Grammar}
use Rattle.grammar_format.specs.Fields.{listed}
use Rattle.table_format.specs.ItemSets.{Items, ItemSet}
use Rattle.table_format.specs.Tables.{Table, Matches, wanted_mark}
use Rattle.table_format.specs.Walks.{Known, Walked}
use Rattle.rows.specs.declared.row.Row.{Row}
use Rattle.rows.specs.Rows.{items}
use Rattle.states.specs.Refusals.{of_table, refusal}
use Rattle.states.specs.declared.fault.TableFault.{TableFault}

abbrev pub row_items : List Row → ℕ → Items
row_items ws k = items (slice_index_or ws k (record { items = [] }))

abbrev pub entry : List (List (Option ℕ)) → ℕ → ℕ → Option ℕ
entry ss s X = slice_index_or (slice_index_or ss s []) X None

abbrev pub step_byte : Option ℕ → ℕ
step_byte o = unwrap_or o 255

abbrev pub built_table : Grammar → ℕ → List Row → List (List (Option ℕ)) → Table
built_table g n ws ss =
    record { states = n; step = λ s X. step_byte (entry ss s X); mark = λ s r. wanted_mark g (row_items ws s) r }

abbrev pub Stepped : ℕ → List (List (Option ℕ)) → Type 0
Stepped n ss = (s X t : ℕ) → entry ss s X ≡ Some t → t < n

unfoldable pub known_rows : ℕ → List Row → List Known
known_rows n ws = listed (λ k. record { state = k; row = row_items ws k }) n

pub record Built (g : Grammar) (n : ℕ) (ws : List Row) (ss : List (List (Option ℕ))) : Type 0 where
  pub some : 1 ≤ n
  pub few : n ≤ 255
  pub matched : Matches g (built_table g n ws ss) (row_items ws)
  pub in_order : Walked g (built_table g n ws ss) (known_rows n ws) n 0 0

-- 256 rows that are item sets, no two of them alike.
pub record ManyRows (g : Grammar) (f : ℕ → Items) : Type 0 where
  pub item_sets : (k : ℕ) → k < 256 → ItemSet g (f k)
  pub apart : (j k : ℕ) → j < 256 → k < 256 → f j ≡ f k → j ≡ k

abbrev pub Many : Grammar → Type 0
Many g = ∥ ((f : ℕ → Items) × ManyRows g f) ∥₁

abbrev pub TooMany : Grammar → TableFault → Type 0
TooMany g e = (refusal e ≡ of_table 30 0 0) × Many g
