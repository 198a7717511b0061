use Rattle.std.proofs.Common.{◌≡◌, ◌<◌, min, length, arith}
use Rattle.replay.proofs.Growing.{made_none, made_more, kept_none, kept_more, made_leads, made_law}
use Rattle.replay.proofs.Leading.{leads_over}
use Rattle.replay.proofs.run.replay.Goals as goal

pub loop-i-init : goal.loop-i-init
loop-i-init g c = (
  made_none g.F.WordFeed.coming g.S.StateSource.meaning c.args.source c.args.steps.now c.args.log.now c.new-reading.result c.new-reading.ensures,
  kept_none g.F.WordFeed.coming c.args.steps.now c.args.log.now,
)

pub loop-i-preserved : goal.loop-i-preserved
loop-i-preserved g c =
    let low : c.loop-i.i < length c.args.steps.now = omega (arith, c.loop-i-test.true, c.min-i-end.ensures) in
    let room : c.loop-i.i < length c.loop-i.log = omega (arith, c.loop-i-test.true, c.min-i-end.ensures, c.loop-i.auto.log) in (
      made_more g.F.WordFeed.coming g.S.StateSource.meaning c.args.source c.args.steps.now c.loop-i.log c.loop-i.steps c.loop-i.i c.loop-i.reading c.perform.new.reading
          c.index-steps-i.result c.perform.new.step c.perform.result c.loop-i.auto.steps low room c.loop-i.invariant.0 c.perform.ensures.makes,
      kept_more g.F.WordFeed.coming c.args.steps.now c.args.log.now c.loop-i.log c.loop-i.steps c.loop-i.i c.index-steps-i.result c.perform.new.step c.perform.result
          low room c.perform.ensures.stays c.perform.ensures.kind c.loop-i.invariant.1,
    )

pub returns-clause-leaves : goal.returns-clause-leaves
returns-clause-leaves g c =
    let n : c.loop-i.i ≡ min (length c.args.steps.now) (length c.args.log.now) =
    omega (arith, c.loop-i-test.false, c.loop-i.auto.i-end, c.min-i-end.ensures) in
    let k = c.loop-i.invariant.1 in
    record { stays = k.stays; kinds = rw n at k.kinds; log = rw n at k.log; steps = rw n at c.loop-i.invariant.0.rest }

pub returns-clause-over : goal.returns-clause-over
returns-clause-over g c = leads_over g.S.StateSource.meaning c.args.source _ c.loop-i.reading c.loop-i.invariant.0.leads

pub returns-clause-leads : goal.returns-clause-leads
returns-clause-leads g c =
    made_leads g.F.WordFeed.coming g.S.StateSource.meaning c.args.source c.args.steps.now c.loop-i.log c.loop-i.steps c.loop-i.i c.loop-i.reading
    (omega (arith, c.loop-i-test.false, c.loop-i.auto.i-end, c.min-i-end.ensures, c.loop-i.auto.log)) c.loop-i.auto.steps c.loop-i.invariant.0

pub returns-clause-law : goal.returns-clause-law
returns-clause-law g c =
    made_law g.F.WordFeed.coming g.S.StateSource.meaning c.args.source c.args.steps.now g.met.S.StateSource.lawful c.loop-i.log c.loop-i.steps c.loop-i.i c.loop-i.reading
    (omega (arith, c.loop-i-test.false, c.loop-i.auto.i-end, c.min-i-end.ensures, c.loop-i.auto.log)) c.loop-i.auto.steps c.loop-i.invariant.0
