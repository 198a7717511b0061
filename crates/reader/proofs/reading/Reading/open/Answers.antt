use Rattle.std.proofs.Common.{rules, ◌≡◌, Result, Err, subst}
use Rattle.links.specs.Words.{OpenedWords}
use Rattle.links.specs.declared.fault.TooManyLinks.{TooManyLinks}
use Rattle.forest.proofs.Mapped.{ok_before, err_before}
use Rattle.reader.specs.declared.fault.ReadingFault.TheVariants.{LimitTooLow}
use Rattle.reader.proofs.Calling.{sound_same, opened_of, open_out, open_over, open_in}
use Rattle.reader.proofs.reading.Reading.open.Goals as goal

pub returns-then-not-is_limit : goal.returns-then-not-is_limit
returns-then-not-is_limit g c = open_out g.S.StateSource.meaning c.args.self.now c.args.limit (c.if-not-is_limit.ensures)

pub invariant_of-self : goal.invariant_of-self
invariant_of-self g c =
    let src = g.S.StateSource.meaning c.self.inside.source in
    let (q, k) = err_before _ c.open.result c.map_err.result _ c.map_err.ensures.cases c.in_err-map_err.was in
    let h = subst (λ (r : Result (Unit {0}) TooManyLinks). OpenedWords src c.args.limit c.self.inside.links r c.open.new.self) k (opened_of src c.self.inside.limit c.self.inside.words.items c.if-not-is_limit.ensures c.self.invariant c.open.ensures) in
    sound_same src c.self.inside.limit c.self.inside.words.items c.self.invariant h.1

pub returns-in_err-map_err : goal.returns-in_err-map_err
returns-in_err-map_err g c =
    let m = g.S.StateSource.meaning in
    let src = m c.self.inside.source in
    let (q, k) = err_before _ c.open.result c.map_err.result _ c.map_err.ensures.cases c.in_err-map_err.was in
    let h = subst (λ (r : Result (Unit {0}) TooManyLinks). OpenedWords src c.args.limit c.self.inside.links r c.open.new.self) k (opened_of src c.self.inside.limit c.self.inside.words.items c.if-not-is_limit.ensures c.self.invariant c.open.ensures) in
    let why : c.from_residual.result ≡ Err LimitTooLow = search rules in
    rw (why, ← c.self.view_is) (open_over m (record { source = c.self.inside.source; limit = c.self.inside.limit; words = c.self.inside.words.items }) c.args.limit (c.if-not-is_limit.ensures) h.0)

pub invariant_of-self-2 : goal.invariant_of-self-2
invariant_of-self-2 g c =
    let src = g.S.StateSource.meaning c.self.inside.source in
    let k = ok_before _ c.open.result c.map_err.result _ c.map_err.ensures.cases c.in_ok-map_err.was in
    let h = subst (λ (r : Result (Unit {0}) TooManyLinks). OpenedWords src c.args.limit c.self.inside.links r c.open.new.self) k (opened_of src c.self.inside.limit c.self.inside.words.items c.if-not-is_limit.ensures c.self.invariant c.open.ensures) in
    (c.if-not-is_limit.ensures, rw c.clear.ensures h.0)

pub returns : goal.returns
returns g c =
    let m = g.S.StateSource.meaning in
    let src = m c.self.inside.source in
    let k = ok_before _ c.open.result c.map_err.result _ c.map_err.ensures.cases c.in_ok-map_err.was in
    let h = subst (λ (r : Result (Unit {0}) TooManyLinks). OpenedWords src c.args.limit c.self.inside.links r c.open.new.self) k (opened_of src c.self.inside.limit c.self.inside.words.items c.if-not-is_limit.ensures c.self.invariant c.open.ensures) in
    rw (← c.self.view_is) (open_in m (record { source = c.self.inside.source; limit = c.self.inside.limit; words = c.self.inside.words.items }) c.args.limit c.clear.new.self.items (c.if-not-is_limit.ensures) h.1 c.clear.ensures)
