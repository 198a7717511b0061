use Rattle.parsing.specs.Items.{kernel}
use Rattle.grammar.specs.Meaning.{meaning}
use Rattle.rows.specs.Rows.{items}
use Rattle.rows.proofs.Completing.{led_through, completed}
use Rattle.rows.proofs.row.Row.complete.Goals as goal

pub loop-next-init : goal.loop-next-init
loop-next-init c = (c.next_symbols-next.ensures, (λ r d k. k), λ r d k. kernel k)

pub loop-next-preserved : goal.loop-next-preserved
loop-next-preserved c = (
  c.predict.ensures.next,
  (λ r d k. c.predict.ensures.within r d (c.loop-next.invariant.1 r d k)),
  led_through (meaning c.args.grammar.now) (items c.args.self.now) (items c.loop-next.self) (items c.predict.new.self)
      c.loop-next.invariant.2 c.predict.ensures.led,
)

pub returns : goal.returns
returns c =
    let last = c.loop-next-test.ensures in
    completed (meaning c.args.grammar.now) (items c.args.self.now) (items c.predict.new.self)
    (λ r d k. last.within r d (c.loop-next.invariant.1 r d k))
    (led_through (meaning c.args.grammar.now) (items c.args.self.now) (items c.loop-next.self) (items c.predict.new.self)
    c.loop-next.invariant.2 last.led)
    last.cases
