use Rattle.std.proofs.Common.{length, ap, arith}
use Rattle.tables.proofs.Lists.{len_is, state_read, row_read}
use Rattle.tables.proofs.known.KnownStates.at.Goals as goal

pub offset_bounds-deref-place : goal.offset_bounds-deref-place
offset_bounds-deref-place c = omega (arith, len_is c.args.self.now, ap length c.deref.ensures.0, c.deref.ensures.1, c.requires)

pub bounds-deref-place : goal.bounds-deref-place
bounds-deref-place c = rw c.deref.ensures.0 (omega (arith, len_is c.args.self.now, c.requires))

pub returns-clause-state : goal.returns-clause-state
returns-clause-state c = rw c.deref.ensures.0 (state_read c.args.self.now c.args.place c.requires _)

pub returns-clause-row : goal.returns-clause-row
returns-clause-row c = rw c.deref.ensures.0 (row_read c.args.self.now c.args.place c.requires _)
