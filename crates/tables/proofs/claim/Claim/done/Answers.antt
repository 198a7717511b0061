use Rattle.std.proofs.Common.{ℕ, ◌==◌, ap}
use Rattle.tables.proofs.Answering.{laid}
use Rattle.tables.proofs.Cells.{mark_read}
use Rattle.tables.proofs.claim.Claim.done.Goals as goal

pub returns : goal.returns
returns c =
    ap (λ (n : ℕ). n == 1)
    (mark_read (laid c.args.self.now.formed) c.args.state c.args.rule c.mark_at.result (rw c.layout.ensures at c.mark_at.ensures))
