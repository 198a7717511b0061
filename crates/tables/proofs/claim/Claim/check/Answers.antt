use Rattle.tables.proofs.Heads.{formed}
use Rattle.tables.proofs.claim.Claim.check.Goals as goal

pub invariant_of-result : goal.invariant_of-result
invariant_of-result c = record { formed = formed c.in_ok-header.ensures.cases c.in_ok-check_bytes.ensures.cases }
