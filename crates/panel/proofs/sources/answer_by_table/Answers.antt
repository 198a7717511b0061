use Rattle.std.proofs.Common.{rules, ◌≡◌, false, ◌≢◌, Err, length, sym, refl, ◌∙◌, eq-eqb, eqb-true}
use borrow.Author.Tests.{both_ways}
use Rattle.panel.specs.Answers.{outcome}
use Rattle.panel.specs.Outcomes.{too_many, table_refused}
use Rattle.panel.specs.declared.fault.Fault.TheVariants.{Table}
use Rattle.panel.proofs.Tables.{over_built, over_supplied}
use Rattle.panel.proofs.sources.answer_by_table.Goals as goal

pub returns-in_err-build : goal.returns-in_err-build
returns-in_err-build g c =
    let why : c.from_residual.result ≡ Err (Table c.in_err-build.field-0.0) = search rules in
    let none : length c.args.table_sheet.now ≡ 0 = eqb-true _ _ (sym c.if-is_empty.ensures) in
    let (e, many) = c.in_err-build.ensures in
    rw (why, e) (too_many none many)

pub returns-in_err-check : goal.returns-in_err-check
returns-in_err-check g c =
    let why : c.from_residual-in_err-check.result ≡ Err (Table c.in_err-check.field-0.0) = search rules in
    let some : length c.args.table_sheet.now ≢ 0 = λ e. both_ways false refl (c.if-is_empty.ensures ∙ eq-eqb (length c.args.table_sheet.now) 0 e) in
    rw why (table_refused c.in_err-check.field-0.0 some c.in_err-check.ensures)

pub returns-in_ok-build : goal.returns-in_ok-build
returns-in_ok-build g c =
    let none : length c.args.table_sheet.now ≡ 0 = eqb-true _ _ (sym c.if-is_empty.ensures) in
    over_built c.args.grammar.now c.args.table_sheet.now (g.F.WordFeed.coming c.args.feed.now) (outcome c.answer.result) c.in_ok-build.field-0 none
    c.in_ok-build.ensures.over_grammar c.in_ok-build.ensures.built c.answer.ensures

pub returns-in_ok-check : goal.returns-in_ok-check
returns-in_ok-check g c =
    let some : length c.args.table_sheet.now ≢ 0 = λ e. both_ways false refl (c.if-is_empty.ensures ∙ eq-eqb (length c.args.table_sheet.now) 0 e) in
    over_supplied c.args.grammar.now c.args.table_sheet.now (g.F.WordFeed.coming c.args.feed.now) (outcome c.answer-else-is_empty.result) c.in_ok-check.field-0 some
    c.in_ok-check.ensures c.answer-else-is_empty.ensures
