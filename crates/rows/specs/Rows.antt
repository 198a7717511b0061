-- What a row and a set of symbols have, and the row of a state.
--   items w        what the row w tells of each item (r, d)
--   member s X     the symbol X is in the set s
--   RowAt src s o  o is the row of the state s of the source src; none where there is no such state
use Rattle.std.specs.Prelude.{◌≡◌, ℕ, ◌<◌, ◌≤◌, Bool, Some, None, Option, ◌==◌}
use Rattle.parsing.specs.Items.{Source}
use Rattle.parsing.specs.Rows.{bit, has}
use Rattle.table_format.specs.ItemSets.{Items}
use Rattle.rows.specs.declared.row.Row.{Row}
use Rattle.rows.specs.declared.symbols.SymbolSet.{SymbolSet}

abbrev pub items : Row → Items
items w r d = has w.items r d

abbrev pub member : SymbolSet → ℕ → Bool
member s X = bit s.bits X == 1

abbrev pub RowAt : Source → ℕ → Option Row → Type 0
RowAt src s None = src.states ≤ s
RowAt src s (Some w) = (s < src.states) × (items w ≡ src.has s)
