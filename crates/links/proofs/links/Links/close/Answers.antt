use Rattle.std.proofs.Common.{None, refl, arith}
use Rattle.std.proofs.lemmas.Result.{err_from_is_err_and}
use Rattle.links.proofs.Contents.{count_more}
use Rattle.links.specs.Tables.{Along}
use Rattle.links.proofs.Rounds.{along_same, along_more, along_overfull, ahead_start, ahead_again, ahead_next, shut_now}
use Rattle.links.proofs.links.Links.close.Goals as goal

pub loop-self-init : goal.loop-self-init
loop-self-init g c =
    (along_same (g.S.StateSource.meaning c.args.over.now.source.now) None c.args.self.now.table c.args.over.now.limit, ahead_start c.args.self.now.table c.start_of-start.result c.start_of-start.ensures)

pub loop-self-preserved : goal.loop-self-preserved
loop-self-preserved g c =
    let src = g.S.StateSource.meaning c.args.over.now.source.now in
    let u = c.loop-self.self.table in
    let v = c.round.new.self.table in
    let a = c.round.ensures.0 in
    (along_more c.loop-self.invariant.0 a, ahead_next u.count a refl (u.within u.place (omega arith)) c.in_ok-round.ensures.1 (c.stays.ensures c.if-stays.false))

pub loop-self-preserved-then-stays : goal.loop-self-preserved-then-stays
loop-self-preserved-then-stays g c =
    let src = g.S.StateSource.meaning c.args.over.now.source.now in
    let a = c.round.ensures.0 in
    let b : Along src None c.args.self.now.table c.round.new.self.table c.args.over.now.limit = along_more c.loop-self.invariant.0 a in
    (b, ahead_again c.start_of-start.result b c.start_of-start.ensures)

pub loop-self-smaller-then-stays : goal.loop-self-smaller-then-stays
loop-self-smaller-then-stays g c =
    let u = c.loop-self.self.table in
    let v = c.round.new.self.table in
    let m = count_more u v c.round.ensures.0.grown in
    omega (arith, c.if-self-before.false, v.few)

pub loop-self-smaller : goal.loop-self-smaller
loop-self-smaller g c =
    let u = c.loop-self.self.table in
    let v = c.round.new.self.table in
    let m = count_more u v c.round.ensures.0.grown in
    omega (arith, c.if-self-before.false, v.few)

pub returns-then-self-before : goal.returns-then-self-before
returns-then-self-before g c =
    let src = g.S.StateSource.meaning c.args.over.now.source.now in
    let a = c.round.ensures.0 in
    let b : Along src None c.args.self.now.table c.round.new.self.table c.args.over.now.limit = along_more c.loop-self.invariant.0 a in
    (b, shut_now c.loop-self.invariant.0 a c.if-self-before.true c.in_ok-round.ensures.1)

pub returns-in_err-round : goal.returns-in_err-round
returns-in_err-round g c =
    let src = g.S.StateSource.meaning c.args.over.now.source.now in
    let a = c.round.ensures.0 in
    let b : Along src None c.args.self.now.table c.round.new.self.table c.args.over.now.limit = along_more c.loop-self.invariant.0 a in
    let e = err_from_is_err_and c.from_residual.result c.from_residual.ensures.1 in
    (b, rw e.1 (along_overfull c.loop-self.invariant.0 c.in_err-round.ensures.1))
