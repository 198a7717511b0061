use Rattle.std.proofs.Common.{refl}
use Rattle.grammar.specs.Meaning.{meaning}
use Rattle.rows.specs.Rows.{items}
use Rattle.table_format.proofs.Turns.{at_none, at_where_none, at_lacking, at_met, at_other, at_known, at_new}
use Rattle.tables.proofs.Answering.{state_below, no_step_by, step_by}
use Rattle.tables.proofs.claim.Claim.try_step.Goals as goal

pub step-requires-clause-state : goal.step-requires-clause-state
step-requires-clause-state c =
    state_below c.args.self.now.formed c.requires.come c.args.place c.requires.inside c.at-state.result.state c.at-state.ensures.state

pub returns-in-None-None-clause-tries : goal.returns-in-None-None-clause-tries
returns-in-None-None-clause-tries c =
    at_none
    (record { come = c.requires.come; inside = c.requires.inside; symbol = c.requires.symbol; row = c.at-state.ensures.row; state = c.at-state.ensures.state; byte = refl })
    (no_step_by (meaning c.args.self.now.grammar.now) (items c.at-state.result.row) c.from.result c.args.symbol c.from.ensures (rw c.in-None-None.is-0 at c.step-wanted.ensures)) (rw c.in-None-None.is-1 at c.step.ensures)

pub returns-in-None-Some-clause-tries : goal.returns-in-None-Some-clause-tries
returns-in-None-Some-clause-tries c =
    let e = rw c.in-None-Some.is-1 at c.step.ensures in
    at_where_none
    (record { come = c.requires.come; inside = c.requires.inside; symbol = c.requires.symbol; row = c.at-state.ensures.row; state = c.at-state.ensures.state; byte = e.0 })
    (no_step_by (meaning c.args.self.now.grammar.now) (items c.at-state.result.row) c.from.result c.args.symbol c.from.ensures (rw c.in-None-Some.is-0 at c.step-wanted.ensures)) e.1

pub returns-in-Some-None-clause-tries : goal.returns-in-Some-None-clause-tries
returns-in-Some-None-clause-tries c =
    at_lacking
    (record { come = c.requires.come; inside = c.requires.inside; symbol = c.requires.symbol; row = c.at-state.ensures.row; state = c.at-state.ensures.state; byte = refl })
    (step_by c.from.ensures (rw c.in-Some-None.is-0 at c.step-wanted.ensures)) (rw c.in-Some-None.is-1 at c.step.ensures)

pub returns-in-Some-clause-tries : goal.returns-in-Some-clause-tries
returns-in-Some-clause-tries c =
    let e = rw c.in-Some-Some.is-1 at c.step.ensures in
    at_met
    (record { come = c.requires.come; inside = c.requires.inside; symbol = c.requires.symbol; row = c.at-state.ensures.row; state = c.at-state.ensures.state; byte = e.0 })
    (step_by c.from.ensures (rw c.in-Some-Some.is-0 at c.step-wanted.ensures)) e.1 c.in-Some.target c.in-Some.ensures (items c.at.result.row) c.at.ensures.row c.if-same.ensures.items

pub returns-in-Some-2-clause-tries : goal.returns-in-Some-2-clause-tries
returns-in-Some-2-clause-tries c =
    let e = rw c.in-Some-Some.is-1 at c.step.ensures in
    at_other
    (record { come = c.requires.come; inside = c.requires.inside; symbol = c.requires.symbol; row = c.at-state.ensures.row; state = c.at-state.ensures.state; byte = e.0 })
    (step_by c.from.ensures (rw c.in-Some-Some.is-0 at c.step-wanted.ensures)) e.1 c.in-Some.target c.in-Some.ensures (items c.at.result.row) c.at.ensures.row c.if-same.ensures.items

pub returns-in-None-clause-tries : goal.returns-in-None-clause-tries
returns-in-None-clause-tries c =
    let e = rw c.in-Some-Some.is-1 at c.step.ensures in
    let (j, h, r) = c.if-knows_row.ensures in
    at_known
    (record { come = c.requires.come; inside = c.requires.inside; symbol = c.requires.symbol; row = c.at-state.ensures.row; state = c.at-state.ensures.state; byte = e.0 })
    (step_by c.from.ensures (rw c.in-Some-Some.is-0 at c.step-wanted.ensures)) e.1 c.in-None.ensures j h r

pub returns-in-None-2-clause-tries : goal.returns-in-None-2-clause-tries
returns-in-None-2-clause-tries c =
    let e = rw c.in-Some-Some.is-1 at c.step.ensures in
    at_new
    (record { come = c.requires.come; inside = c.requires.inside; symbol = c.requires.symbol; row = c.at-state.ensures.row; state = c.at-state.ensures.state; byte = e.0 })
    (step_by c.from.ensures (rw c.in-Some-Some.is-0 at c.step-wanted.ensures)) e.1 c.in-None-2.ensures c.if-knows_row.ensures
