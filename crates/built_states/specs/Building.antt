-- A table of states that is being built.
--   Roomy ss               there is room for the steps of every state by every symbol
--   table_so_far g b       the table that b has come to
--   CompletedAt g b k w c  the table c is b with the completed kernel w in the place k, all else as it was
--   Come g b i X           the walk over the table b comes to the symbol X of the state i, and the steps from there on are none yet
use Rattle.std.specs.Prelude.{◌≡◌, ℕ, ◌<◌, ◌≤◌, ◌⊎◌, true, ◌≢◌, List, [], None, Option, length, slice_index_or}
use Rattle.parsing.specs.Grammar.{Grammar}
use Rattle.table_format.specs.ItemSets.{Completed}
use Rattle.table_format.specs.Tables.{Table}
use Rattle.table_format.specs.Walks.{Walked}
use Rattle.rows.specs.declared.row.Row.{Row}
use Rattle.rows.specs.Rows.{items}
use Rattle.built_states.specs.Built.{row_items, entry, built_table, known_rows, Stepped}
use Rattle.built_states.specs.declared.building.Building.{Building}

-- The rows of 255 states, with room for 64 symbols in each.
pub record Roomy (ss : List (List (Option ℕ))) : Type 0 where
  pub states : length ss ≡ 255
  pub symbols : (s : ℕ) → s < 255 → length (slice_index_or ss s []) ≡ 64

abbrev pub table_so_far : Grammar → Building → Table
table_so_far g b = built_table g b.count b.rows b.steps

pub record CompletedAt (g : Grammar) (b : Building) (k : ℕ) (w : Row) (c : Building) : Type 0 where
  pub count_same : c.count ≡ b.count
  pub steps_same : c.steps ≡ b.steps
  pub room_same : length c.rows ≡ length b.rows
  pub others_same : (j : ℕ) → j ≢ k → row_items c.rows j ≡ row_items b.rows j
  pub completed : Completed g (λ r d. items w r d ≡ true) (row_items c.rows k)

pub record Come (g : Grammar) (b : Building) (i X : ℕ) : Type 0 where
  pub some : 1 ≤ b.count
  pub few : b.count ≤ 255
  pub row_room : length b.rows ≡ 256
  pub step_room : Roomy b.steps
  pub stepped : Stepped b.count b.steps
  pub untried : (s Y : ℕ) → (i < s) ⊎ ((i ≡ s) × (X ≤ Y)) → entry b.steps s Y ≡ None
  pub walked : Walked g (table_so_far g b) (known_rows b.count b.rows) i X 0
