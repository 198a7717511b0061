use Rattle.std.proofs.Common.{None}
use Rattle.std.proofs.lemmas.Result.{err_from_is_err_and}
use Rattle.links.specs.Tables.{Along}
use Rattle.links.proofs.Rounds.{along_more, along_overfull, ahead_more, no_rules, one_rule}
use Rattle.links.proofs.links.Links.round.Goals as goal

pub loop-rule-init : goal.loop-rule-init
loop-rule-init g c = no_rules (g.S.StateSource.meaning c.args.over.now.source.now) c.args.self.now.table c.args.over.now.limit

pub reduce-requires-clause-ahead : goal.reduce-requires-clause-ahead
reduce-requires-clause-ahead g c = ahead_more c.loop-rule.invariant.along c.requires

pub loop-rule-preserved : goal.loop-rule-preserved
loop-rule-preserved g c =
    let src = g.S.StateSource.meaning c.args.over.now.source.now in
    let a = c.reduce.ensures.0 in
    one_rule c.loop-rule.invariant a c.in_ok-reduce.ensures.1

pub returns-in_err-reduce : goal.returns-in_err-reduce
returns-in_err-reduce g c =
    let src = g.S.StateSource.meaning c.args.over.now.source.now in
    let a = c.reduce.ensures.0 in
    let b : Along src None c.args.self.now.table c.reduce.new.self.table c.args.over.now.limit = along_more c.loop-rule.invariant.along a in
    let e = err_from_is_err_and c.from_residual.result c.from_residual.ensures.1 in
    (b, rw e.1 (along_overfull c.loop-rule.invariant.along c.in_err-reduce.ensures.1))
