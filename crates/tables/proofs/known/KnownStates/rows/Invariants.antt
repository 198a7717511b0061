use Rattle.std.proofs.Common.{◌≡◌, length}
use Rattle.tables.specs.Lists.{listed, RowsBy}
use Rattle.tables.proofs.known.KnownStates.rows.Given as goal

abbrev pub invariant-loop-known : goal.invariant-loop-known
invariant-loop-known l = (length l.rows ≡ 255) × RowsBy (listed l.self) l.rows l.known-index
