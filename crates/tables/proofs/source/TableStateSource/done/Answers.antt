use Rattle.std.proofs.Common.{ℕ, ◌≤◌, List, arith, ap, ◌∙◌, ◌==◌}
use Rattle.std.proofs.lemmas.Bool.{le-ltb}
use Rattle.table_format.specs.Sheets.{table_of}
use Rattle.tables.proofs.Questions.{done_past_states, done_past_rules, done_is}
use Rattle.tables.proofs.source.TableStateSource.done.Goals as goal
use Rattle.tables.proofs.source.TableStateSource.done.Goals.{then-state-claim, else-state-claim}

pub returns-then-rule-claim : goal.returns-then-rule-claim
returns-then-rule-claim c =
    done_is c.args.self.now c.args.state c.args.rule c.done.result (rw c.claim-claim.ensures.header at c.if-rule-claim.true.0)
    (rw c.claim-claim.ensures.header at c.if-rule-claim.true.1)
    (c.done.ensures ∙ ap (λ (xs : List ℕ). (table_of xs).mark c.args.state c.args.rule == 1) c.claim-claim.ensures.sheet)

pub returns-else-rule-claim : goal.returns-else-rule-claim
returns-else-rule-claim c =
    elim c.if-state-claim.branch [
      | then-state-claim w ↦
          let l : c.claim-claim.result.header.rules ≤ c.args.rule = omega (arith, c.if-rule-claim.either, w.if-state-claim.true) in
          w.t-7-is
          ∙ le-ltb c.args.rule c.claim-claim.result.header.rules l
          ∙ done_past_rules c.args.self.now c.args.state c.args.rule (rw c.claim-claim.ensures.header at l)
      | else-state-claim w ↦
          w.t-7-is
          ∙ le-ltb c.args.state c.claim-claim.result.header.states w.if-state-claim.false
          ∙ done_past_states c.args.self.now c.args.state c.args.rule (rw c.claim-claim.ensures.header at w.if-state-claim.false)
    ]
