use Rattle.std.proofs.Common.{Some, sym, refl, ◌∙◌}
use Rattle.std.proofs.lemmas.Result.{err_from_is_err_and}
use Rattle.links.specs.Tables.{Along}
use Rattle.links.proofs.Contents.{kept_same, nowhere, somewhere, turned_by, turned_grown}
use Rattle.links.proofs.Rounds.{along_more}
use Rattle.links.proofs.Keeps.{no_shifts, shifting_more, shifting_full, shifting_all}
use Rattle.links.proofs.table.Table.shift_links.Goals as goal

pub loop-k-init : goal.loop-k-init
loop-k-init g c = no_shifts (g.S.StateSource.meaning c.args.word.now.symbol.over.now.source.now) c.args.word.now.symbol.x c.args.self.now c.args.word.now.symbol.over.now.limit c.start_of-start.result

pub loop-k-preserved-in_default : goal.loop-k-preserved-in_default
loop-k-preserved-in_default g c =
    shifting_more c.start_of-start.ensures c.start_of-end.ensures c.requires c.args.word.now.terminal c.loop-k.invariant c.loop-k.auto.k c.loop-k-test.true
    (kept_same c.loop-k.self c.args.word.now.symbol.over.now.limit) (nowhere (sym c.next.ensures ∙ c.in_default.is) refl)

pub loop-k-preserved : goal.loop-k-preserved
loop-k-preserved g c =
    shifting_more c.start_of-start.ensures c.start_of-end.ensures c.requires c.args.word.now.terminal c.loop-k.invariant c.loop-k.auto.k c.loop-k-test.true
    c.put.ensures.kept (somewhere c.in-Some.state (sym c.next.ensures ∙ c.in-Some.is) c.in_ok-put.ensures.cases)

pub returns-in_err-put : goal.returns-in_err-put
returns-in_err-put g c =
    let src = g.S.StateSource.meaning c.args.word.now.symbol.over.now.source.now in
    let x = c.args.word.now.symbol.x in
    let n = c.args.word.now.symbol.over.now.limit in
    let full = turned_by (sym c.next.ensures ∙ c.in-Some.is) c.in_err-put.ensures.cases in
    let a : Along src (Some x) c.loop-k.self c.put.new.self n = record { kept = c.put.ensures.kept; grown = turned_grown full } in
    let b : Along src (Some x) c.args.self.now c.put.new.self n = along_more c.loop-k.invariant.along a in
    let e = err_from_is_err_and c.from_residual.result c.from_residual.ensures.1 in
    (b, rw e.1 (shifting_full c.start_of-start.ensures c.start_of-end.ensures c.requires c.args.word.now.terminal c.loop-k.invariant c.loop-k.auto.k c.loop-k-test.true c.put.new.self full))

pub returns : goal.returns
returns g c = (c.loop-k.invariant.along, shifting_all c.start_of-start.ensures c.start_of-end.ensures c.requires c.loop-k-test.false c.loop-k.invariant)
