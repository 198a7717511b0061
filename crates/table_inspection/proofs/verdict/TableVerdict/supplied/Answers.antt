use Rattle.table_inspection.specs.Reports.{Supplied}
use Rattle.table_inspection.proofs.Listed.{supplied_listing}
use Rattle.table_inspection.proofs.Refusing.{explains}
use Rattle.table_inspection.proofs.verdict.TableVerdict.supplied.Goals as goal

pub returns-in-Ok : goal.returns-in-Ok
returns-in-Ok c = supplied_listing c.args.grammar.now c.args.sheet.now c.in-Ok.table c.in-Ok.ensures

pub returns-in-Err : goal.returns-in-Err
returns-in-Err c =
    let x = c.of.result in
    let e = c.in-Err.finding in
    Supplied.refused e x.wanted c.in-Err.ensures c.of.ensures.wanted
    (explains x c.args.grammar.now c.args.sheet.now e c.of.ensures.grammar c.of.ensures.sheet c.of.ensures.finding)
