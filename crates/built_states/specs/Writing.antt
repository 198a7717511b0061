-- What writing the table sheet of built states leaves in the room.
--   sheet b               the bytes of the table sheet of b
--   Written b old new n   the sheet of b was written, n bytes: it is the front of new, and the bytes past it are those of old; and it
--                         passes the check of table sheets
--   Short xs old new f    the room was too short for the bytes xs: the fault f is refused as 31 with the need, and new is old
use Rattle.std.specs.Prelude.{◌≡◌, ℕ, ◌<◌, List, length}
use Rattle.grammar.specs.Meaning.{meaning}
use Rattle.grammar.specs.Writing.{Writes}
use Rattle.states.specs.Refusals.{of_table, refusal}
use Rattle.states.specs.declared.fault.TableFault.{TableFault}
use Rattle.table_format.specs.Sheets.{table_bytes}
use Rattle.table_format.specs.Walks.{passes}
use Rattle.table_format.specs.Breaches.{Checked}
use Rattle.built_states.specs.Meaning.{table}
use Rattle.built_states.specs.declared.built.BuiltStates.{BuiltStates}

unfoldable pub sheet : BuiltStates → List ℕ
sheet b = table_bytes (meaning b.grammar) (table b)

pub record Written (b : BuiltStates) (old new : List ℕ) (n : ℕ) : Type 0 where
  pub writes : Writes (sheet b) old new n
  pub passes_check : Checked (meaning b.grammar) (sheet b) passes

pub record Short (xs old new : List ℕ) (f : TableFault) : Type 0 where
  pub need : refusal f ≡ of_table 31 (length xs) 0
  pub room : length old < length xs
  pub same : new ≡ old
