use Rattle.tables.proofs.Answering.{laid}
use Rattle.tables.proofs.Cells.{step_read, step_told}
use Rattle.tables.proofs.claim.Claim.step.Goals as goal

pub returns : goal.returns
returns c =
    rw c.then_some.ensures
    (step_told _ _ (step_read (laid c.args.self.now.formed) c.args.state c.args.symbol c.step_at.result (rw c.layout.ensures at c.step_at.ensures)))
