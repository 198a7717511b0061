-- The refusals of tables of states.
--   refusal f   the number, the layer and the places of the fault f
--   outcome f   the same as an outcome of the check of a table
use Rattle.std.specs.Prelude.{ℕ}
use Rattle.table_format.specs.Walks.{Outcome, refuses}
use Rattle.grammar.specs.declared.refusal.Refusal.{Refusal}
use Rattle.grammar.specs.declared.refusal.Layer.TheVariants.{Table}
use Rattle.states.specs.declared.fault.TableFault.{TableFault}
use Rattle.states.specs.declared.fault.TableFault.TheVariants.{WholeLength, CountRange, Offset, ByteRange, StepWhereNone, StepLacking}
use Rattle.states.specs.declared.fault.TableFault.TheVariants.{OtherRow, KnownRow, MarkWrong, NeverReached, TooManyStates, RoomShort}

abbrev pub of_table : ℕ → ℕ → ℕ → Refusal
of_table n p q = record { number = n; layer = Table; first = p; second = q }

abbrev pub refusal : TableFault → Refusal
refusal WholeLength = of_table 20 0 0
refusal CountRange = of_table 21 0 0
refusal Offset = of_table 22 0 0
refusal (ByteRange o) = of_table 23 o 0
refusal (StepWhereNone s X) = of_table 24 s X
refusal (StepLacking s X) = of_table 25 s X
refusal (OtherRow s X) = of_table 26 s X
refusal (KnownRow s X) = of_table 27 s X
refusal (MarkWrong s r) = of_table 28 s r
refusal (NeverReached s) = of_table 29 s 0
refusal TooManyStates = of_table 30 0 0
refusal (RoomShort n) = of_table 31 n 0

abbrev pub outcome : TableFault → Outcome
outcome f = refuses (refusal f).number (refusal f).first (refusal f).second
