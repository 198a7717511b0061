use Rattle.std.proofs.Common.{None, length, sym, refl, ◌∙◌, arith}
use Rattle.std.proofs.lemmas.Result.{err_from_is_err_and}
use Rattle.std.proofs.lemmas.Bool.{eqb-true}
use Rattle.link_growth.specs.Entries.{cell}
use Rattle.link_growth.proofs.Members.{mem_index}
use Rattle.links.specs.Sets.{cells_of}
use Rattle.links.specs.Tables.{Along}
use Rattle.links.proofs.Contents.{kept_same, nowhere, somewhere, turned_by, turned_grown}
use Rattle.links.proofs.Members.{each_once}
use Rattle.links.proofs.Rounds.{along_same, along_more, firing_none, firing_falls, firing_fresh, firing_known, firing_more, firing_full, firing_all}
use Rattle.links.proofs.firing.fire.Goals as goal

pub returns-then-is_empty : goal.returns-then-is_empty
returns-then-is_empty g c =
    let s = c.args.symbol.now in
    let src = g.S.StateSource.meaning s.over.now.source.now in
    let t = c.args.table.now in
    let none = eqb-true (length (cells_of c.args.here.now)) 0 (sym c.is_empty.ensures ∙ c.if-is_empty.true) in
    (along_same src None t s.over.now.limit, λ q b i n here leads next. let (k, lt, e) = mem_index (cell 0 0) here in absurd (omega arith))

pub loop-c-init : goal.loop-c-init
loop-c-init g c =
    let s = c.args.symbol.now in
    firing_none (g.S.StateSource.meaning s.over.now.source.now) s.x c.args.table.now s.over.now.limit (cells_of c.args.here.now) (cells_of c.mark_linked.new.there) c.mark_linked.ensures

pub loop-c-preserved-then-has : goal.loop-c-preserved-then-has
loop-c-preserved-then-has g c =
    firing_known (cells_of c.pop.new.self) c.in-Some.c c.in-Some.ensures c.loop-c.invariant (c.has.ensures.there c.if-has.true)

pub loop-c-preserved-in_default-next : goal.loop-c-preserved-in_default-next
loop-c-preserved-in_default-next g c =
    firing_more (cells_of c.pop.new.self) c.in-Some.c c.in-Some.ensures c.loop-c.invariant c.requires (each_once c.loop-c.here)
    (kept_same c.loop-c.table c.args.symbol.now.over.now.limit) (nowhere (sym c.next.ensures ∙ c.in_default-next.is) refl)

pub push-requires : goal.push-requires
push-requires g c =
    let steps = sym c.next.ensures ∙ c.in-Some-next.is in record {
      bound = c.args.symbol.now.over.now.few;
      here = refl;
      falls = firing_falls (cells_of c.pop.new.self) c.in-Some.c c.in-Some.ensures c.loop-c.invariant c.requires c.in-Some-next.state steps;
      fresh = firing_fresh (cells_of c.pop.new.self) c.in-Some.c c.in-Some.ensures c.loop-c.invariant c.requires (c.has.ensures.absent c.if-has.false) c.in-Some-next.state steps;
    }

pub loop-c-preserved : goal.loop-c-preserved
loop-c-preserved g c =
    firing_more (cells_of c.pop.new.self) c.in-Some.c c.in-Some.ensures c.loop-c.invariant c.requires (each_once c.loop-c.here) c.push.ensures.kept
    (somewhere c.in-Some-next.state (sym c.next.ensures ∙ c.in-Some-next.is) c.in_ok-push.ensures.cases)

pub returns-in_err-push : goal.returns-in_err-push
returns-in_err-push g c =
    let s = c.args.symbol.now in
    let src = g.S.StateSource.meaning s.over.now.source.now in
    let full = turned_by (sym c.next.ensures ∙ c.in-Some-next.is) c.in_err-push.ensures.cases in
    let a : Along src None c.loop-c.table c.push.new.self s.over.now.limit = record { kept = c.push.ensures.kept; grown = turned_grown full } in
    let b : Along src None c.args.table.now c.push.new.self s.over.now.limit = along_more c.loop-c.invariant.along a in
    let e = err_from_is_err_and c.from_residual.result c.from_residual.ensures.1 in
    (b, rw e.1 (firing_full (cells_of c.pop.new.self) c.in-Some.c c.in-Some.ensures c.loop-c.invariant c.requires c.push.new.self full))

pub returns : goal.returns
returns g c = (c.loop-c.invariant.along, firing_all c.in_default.ensures.0 c.loop-c.invariant)
