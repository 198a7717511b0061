use Rattle.std.proofs.Common.{◌<◌, length, ◌∙◌, ap, arith}
use Rattle.std.proofs.lemmas.List.{length-set}
use Rattle.tables.specs.Lists.{listed}
use Rattle.tables.proofs.Lists.{len_is, state_read, row_read, rows_more, state_below}
use Rattle.tables.proofs.known.KnownStates.rows.Goals as goal

pub bounds-rows-from : goal.bounds-rows-from
bounds-rows-from c =
    let ks = c.args.self.now in
    let here : c.loop-known.known-index < length (listed ks) = omega (arith, len_is ks, ap length c.deref-known-items.ensures.0) in
    let e = rw c.deref-known-items.ensures.0 at c.from.ensures in
    state_below (listed ks) c.requires c.loop-known.known-index c.from.result here (e ∙ state_read ks c.loop-known.known-index here _)

pub loop-known-preserved : goal.loop-known-preserved
loop-known-preserved c =
    let ks = c.args.self.now in
    let here : c.loop-known.known-index < length (listed ks) = omega (arith, len_is ks, ap length c.deref-known-items.ensures.0) in
    let e = rw c.deref-known-items.ensures.0 at c.from.ensures in
    rw c.deref-known-items.ensures.0 (
      length-set c.loop-known.rows c.from.result _ ∙ c.loop-known.invariant.0,
      rows_more (listed ks) c.loop-known.rows c.loop-known.known-index c.from.result _ c.requires c.loop-known.invariant.0 here
          (e ∙ state_read ks c.loop-known.known-index here _) (row_read ks c.loop-known.known-index here _) c.loop-known.invariant.1,
    )

pub returns : goal.returns
returns c = λ j h. c.loop-known.invariant.1 j (omega (arith, len_is c.args.self.now, ap length c.deref-known-items.ensures.0))
