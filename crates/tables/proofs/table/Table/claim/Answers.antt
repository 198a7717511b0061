use Rattle.tables.specs.Held.{held}
use Rattle.tables.proofs.table.Table.claim.Goals as goal

pub invariant_of-result : goal.invariant_of-result
invariant_of-result c = record { formed = rw c.as_slice.ensures.value (held c.args.self.now).formed }
