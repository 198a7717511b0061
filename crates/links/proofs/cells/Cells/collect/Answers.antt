use Rattle.std.proofs.Common.{Some, refl, rules, of_calls}
use Rattle.std.specs.Fn.{FnReturnsAt}
use Rattle.link_growth.specs.Entries.{at}
use Rattle.links.proofs.Spreads.{collecting_room, collecting_passed, collecting_taken, collecting_all}
use Rattle.links.proofs.cells.Cells.collect.Goals as goal
use Rattle.links.proofs.cells.Cells.collect.Goals.{in-Some, in_default}

pub insert-requires : goal.insert-requires
insert-requires g c none =
    let here : FnReturnsAt g.F.Fn c.args.pick (at c.args.links.now c.loop-link.link-index) (Some c.in-Some.c) = search (of_calls, rules) in
    collecting_room c.loop-link.invariant c.loop-link.self refl c.requires.room c.in-Some.c c.loop-link-test.true here none

pub loop-link-preserved : goal.loop-link-preserved
loop-link-preserved g c = elim c.match-pick.branch [
  | in-Some w ↦ rw w.self-is (collecting_taken c.loop-link.invariant w.in-Some.c (search (of_calls, rules)) w.insert.ensures)
  | in_default w ↦ rw w.self-is (collecting_passed c.loop-link.invariant (search (of_calls, rules)))
]

pub returns : goal.returns
returns g c = collecting_all c.loop-link.invariant c.loop-link.auto.link-index-end c.loop-link-test.false
