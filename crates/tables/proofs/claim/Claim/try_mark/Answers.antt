use Rattle.std.proofs.Common.{sym, refl, ◌∙◌}
use Rattle.grammar.specs.Meaning.{meaning}
use Rattle.rows.specs.Rows.{items}
use Rattle.table_format.proofs.Turns.{wanted, at_mark, at_mark_wrong}
use Rattle.tables.proofs.Answering.{state_below, mark_low, mark_met, mark_missed}
use Rattle.tables.proofs.claim.Claim.try_mark.Goals as goal

pub done-requires-clause-state : goal.done-requires-clause-state
done-requires-clause-state c =
    state_below c.args.self.now.formed c.requires.come c.args.place c.requires.inside c.at-state.result.state c.at-state.ensures.state

pub returns-then-done-is_done-clause-cases : goal.returns-then-done-is_done-clause-cases
returns-then-done-is_done-clause-cases c =
    let f = c.args.self.now.formed in
    let s = c.at-state.result.state in
    at_mark
    (record { come = c.requires.come; inside = c.requires.inside; rule = c.requires.rule; row = c.at-state.ensures.row; state = c.at-state.ensures.state; byte = refl })
    (mark_met _ c.done.result c.is_done.result
    (mark_low f s c.args.rule (state_below f c.requires.come c.args.place c.requires.inside s c.at-state.ensures.state) c.requires.rule)
    c.done.ensures c.if-done-is_done.true
    ∙ wanted (meaning c.args.self.now.grammar.now) (items c.at-state.result.row) c.args.rule c.from.result c.is_done.result c.from.ensures c.requires.rule c.is_done.ensures)

pub returns-else-done-is_done-clause-cases : goal.returns-else-done-is_done-clause-cases
returns-else-done-is_done-clause-cases c =
    at_mark_wrong
    (record { come = c.requires.come; inside = c.requires.inside; rule = c.requires.rule; row = c.at-state.ensures.row; state = c.at-state.ensures.state; byte = refl })
    (λ e.
    mark_missed _ c.done.result c.is_done.result c.done.ensures c.if-done-is_done.false
    (e ∙ sym (wanted (meaning c.args.self.now.grammar.now) (items c.at-state.result.row) c.args.rule c.from.result c.is_done.result c.from.ensures c.requires.rule c.is_done.ensures)))
