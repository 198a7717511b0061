-- The known states as they are kept.
--   known_of k          the known state that k stands for
--   listed ks           the known states, in the order in which they became known
--   KnowsRow ks w       some known state has the row w
--   Unreached ks M s    s is the lowest of the states below M that is not known
--   Apart ks            the known states are apart, and below 255
--   row_in ws s         the row in the place s of the rows ws
--   RowsBy ks ws n      the rows of the first n known states stand in ws, each in the place of its state
use Rattle.std.specs.Prelude.{◌≡◌, ℕ, ◌<◌, List, [], map, length, slice_index_or}
use Rattle.rows.specs.Rows.{items}
use Rattle.rows.specs.declared.row.Row.{Row}
use Rattle.table_format.specs.ItemSets.{Items}
use Rattle.table_format.specs.Walks.{Known, state_at, row_at, Knows, NewState}
use Rattle.tables.specs.declared.known.Known.{Known as Kept}
use Rattle.tables.specs.declared.known.KnownStates.{KnownStates}

abbrev pub known_of : Kept → Known
known_of k = record { state = k.state; row = items k.row }

unfoldable pub listed : KnownStates → List Known
listed ks = map known_of ks.list.items

abbrev pub KnowsRow : List Known → Items → Type 0
KnowsRow ks w = (j : ℕ) × (j < length ks) × (row_at ks j ≡ w)

pub record Unreached (ks : List Known) (M s : ℕ) : Type 0 where
  pub below : s < M
  pub new : NewState ks s
  pub before : (u : ℕ) → u < s → Knows ks u

pub record Apart (ks : List Known) : Type 0 where
  pub some : 0 < length ks
  pub below : (j : ℕ) → j < length ks → state_at ks j < 255
  pub apart : (j k : ℕ) → j < length ks → k < length ks → state_at ks j ≡ state_at ks k → j ≡ k

unfoldable pub row_in : List Row → ℕ → Items
row_in ws s = items (slice_index_or ws s (record { items = [] }))

abbrev pub RowsBy : List Known → List Row → ℕ → Type 0
RowsBy ks ws n = (j : ℕ) → j < n → row_in ws (state_at ks j) ≡ row_at ks j
