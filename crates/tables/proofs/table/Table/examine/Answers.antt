use Rattle.std.proofs.Common.{refl, length}
use Rattle.grammar.specs.Meaning.{meaning}
use Rattle.rows.proofs.Grammars.{right_sides}
use Rattle.std.proofs.lemmas.Result.{err_from_is_err_and}
use Rattle.table_format.specs.Sheets.{table_of}
use Rattle.table_format.specs.Walks.{Walked}
use Rattle.tables.specs.Heads.{Formed}
use Rattle.tables.specs.Lists.{listed}
use Rattle.tables.proofs.Answering.{form_found, walk_found, unreached, apart, walk_passes, passed, passed_over}
use Rattle.tables.proofs.table.Table.examine.Goals as goal

pub returns-in_err-claim : goal.returns-in_err-claim
returns-in_err-claim c =
    let p = err_from_is_err_and c.from_residual.result c.from_residual.ensures.1 in
    rw (p.1, p.2) (form_found (right_sides c.args.grammar.now) c.in_err-claim.ensures.cases c.in_err-claim.ensures.no_state)

pub returns-in_err-known : goal.returns-in_err-known
returns-in_err-known c =
    let p = err_from_is_err_and c.from_residual-in_err-known.result c.from_residual-in_err-known.ensures.1 in
    let d : Formed (meaning c.args.grammar.now) c.args.sheet.now c.in_ok-claim.claim.header = rw (c.in_ok-claim.ensures.cases.0, c.in_ok-claim.ensures.cases.1) at c.in_ok-claim.claim.formed in
    let h = rw (c.in_ok-claim.ensures.cases.0, c.in_ok-claim.ensures.cases.1) at c.in_err-known.ensures in
    rw (p.1, p.2) (walk_found (right_sides c.args.grammar.now) d h)

pub returns-in-Some : goal.returns-in-Some
returns-in-Some c =
    let d : Formed (meaning c.args.grammar.now) c.args.sheet.now c.in_ok-claim.claim.header = rw (c.in_ok-claim.ensures.cases.0, c.in_ok-claim.ensures.cases.1) at c.in_ok-claim.claim.formed in
    let w : Walked (meaning c.args.grammar.now) (table_of c.args.sheet.now) (listed c.in_ok-known.known) (length (listed c.in_ok-known.known)) 0 0 = rw (c.in_ok-claim.ensures.cases.0, c.in_ok-claim.ensures.cases.1) at c.in_ok-known.ensures in
    rw c.into.ensures (walk_found (right_sides c.args.grammar.now) d (unreached d w c.in-Some.state c.in-Some.ensures))

pub rows-requires : goal.rows-requires
rows-requires c = apart c.in_ok-claim.claim.formed c.in_ok-known.ensures

pub invariant_of-result : goal.invariant_of-result
invariant_of-result c =
    let d : Formed (meaning c.args.grammar.now) c.args.sheet.now c.in_ok-claim.claim.header = rw (c.in_ok-claim.ensures.cases.0, c.in_ok-claim.ensures.cases.1) at c.in_ok-claim.claim.formed in
    let w : Walked (meaning c.args.grammar.now) (table_of c.args.sheet.now) (listed c.in_ok-known.known) (length (listed c.in_ok-known.known)) 0 0 = rw (c.in_ok-claim.ensures.cases.0, c.in_ok-claim.ensures.cases.1) at c.in_ok-known.ensures in
    let h = rw c.unwrap.ensures at c.try_from.ensures in
    record { passed = ∣ passed_over h.0 (passed d w c.in_default.ensures (right_sides c.args.grammar.now) c.rows.result c.rows.ensures) ∣₁ }

pub returns : goal.returns
returns c =
    let d : Formed (meaning c.args.grammar.now) c.args.sheet.now c.in_ok-claim.claim.header = rw (c.in_ok-claim.ensures.cases.0, c.in_ok-claim.ensures.cases.1) at c.in_ok-claim.claim.formed in
    let w : Walked (meaning c.args.grammar.now) (table_of c.args.sheet.now) (listed c.in_ok-known.known) (length (listed c.in_ok-known.known)) 0 0 = rw (c.in_ok-claim.ensures.cases.0, c.in_ok-claim.ensures.cases.1) at c.in_ok-known.ensures in
    let h = rw c.unwrap.ensures at c.try_from.ensures in
    record {
      checked = walk_passes d w c.in_default.ensures;
      form = d.form;
      matches = (passed d w c.in_default.ensures (right_sides c.args.grammar.now) c.rows.result c.rows.ensures).matches;
      over_grammar = refl;
      over_bytes = h.0;
    }
