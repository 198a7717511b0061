use Rattle.tables.proofs.Questions.{next_past_states, next_past_symbols, next_is}
use Rattle.tables.proofs.source.TableStateSource.next.Goals as goal
use Rattle.tables.proofs.source.TableStateSource.next.Goals.{then-state-claim-via-then-state-claim, then-state-claim-via-else-state-claim+then-symbol-claim}

pub returns-then-state-claim : goal.returns-then-state-claim
returns-then-state-claim c =
    elim c.then-state-claim.branch [
      | then-state-claim-via-then-state-claim w ↦
          next_past_states c.args.self.now c.args.state c.args.symbol (rw c.claim-claim.ensures.header at w.if-state-claim.true)
      | then-state-claim-via-else-state-claim+then-symbol-claim w ↦
          next_past_symbols c.args.self.now c.args.state c.args.symbol (rw c.claim-claim.ensures.header at w.if-symbol-claim.true)
    ]

pub returns : goal.returns
returns c =
    next_is c.args.self.now c.args.state c.args.symbol c.step.result (rw c.claim-claim.ensures.header at c.if-state-claim.false)
    (rw c.claim-claim.ensures.header at c.if-symbol-claim.false)
    (rw c.claim-claim.ensures.sheet at c.step.ensures)
