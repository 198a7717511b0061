use Rattle.std.proofs.Common.{rules, ◌≡◌, Err, length, ap, ◌∙◌, subst, arith}
use Rattle.links.specs.Words.{TookWords}
use Rattle.forest.proofs.Mapped.{ok_before, err_before}
use Rattle.reader.specs.declared.fault.ReadingFault.TheVariants.{Closed, Take}
use Rattle.reader.proofs.Calling.{limit_of, took_of, sound_opened, sound_same, took_same, took_taken, take_out, take_out_of, take_in}
use Rattle.reader.proofs.reading.Reading.take.Goals as goal

pub returns-in_err-limit : goal.returns-in_err-limit
returns-in_err-limit g c =
    let why : c.from_residual.result ≡ Err Closed = search rules in
    rw why (take_out g.S.StateSource.meaning c.args.self.now c.args.terminal c.in_err-limit.ensures.1)

pub invariant_of-self : goal.invariant_of-self
invariant_of-self g c =
    let src = g.S.StateSource.meaning c.self.inside.source in
    let ws = c.self.inside.words.items in
    let limit = ap (λ v. v.limit) c.self.view_is ∙ c.in_ok-limit.ensures in
    let (q, k) = err_before _ c.take.result c.map_err.result _ c.map_err.ensures.cases c.in_err-map_err.was in
    let took = subst (λ r. TookWords src ws c.args.terminal c.in_ok-limit.limit c.self.inside.links r c.take.new.self) k (took_of src ws limit c.self.invariant c.take.ensures) in
    sound_same src c.self.inside.limit ws c.self.invariant (took_same q took)

pub returns-in_err-map_err : goal.returns-in_err-map_err
returns-in_err-map_err g c =
    let m = g.S.StateSource.meaning in
    let src = m c.self.inside.source in
    let ws = c.self.inside.words.items in
    let limit = ap (λ v. v.limit) c.self.view_is ∙ c.in_ok-limit.ensures in
    let (q, k) = err_before _ c.take.result c.map_err.result _ c.map_err.ensures.cases c.in_err-map_err.was in
    let took = subst (λ r. TookWords src ws c.args.terminal c.in_ok-limit.limit c.self.inside.links r c.take.new.self) k (took_of src ws limit c.self.invariant c.take.ensures) in
    let why : c.from_residual-in_err-map_err.result ≡ Err (Take q (length ws) c.args.terminal) = search rules in
    rw (why, ← c.self.view_is) (take_out_of m (record { source = c.self.inside.source; limit = c.self.inside.limit; words = ws }) c.args.terminal c.in_ok-limit.limit
    c.self.inside.links c.take.new.self q limit took)

pub overflow_cast-terminal : goal.overflow_cast-terminal
overflow_cast-terminal g c =
    let src = g.S.StateSource.meaning c.self.inside.source in
    let ws = c.self.inside.words.items in
    let limit = ap (λ v. v.limit) c.self.view_is ∙ c.in_ok-limit.ensures in
    let k = ok_before _ c.take.result c.map_err.result _ c.map_err.ensures.cases c.in_ok-map_err.was in
    let took = subst (λ r. TookWords src ws c.args.terminal c.in_ok-limit.limit c.self.inside.links r c.take.new.self) k (took_of src ws limit c.self.invariant c.take.ensures) in
    let few = (g.met.S.StateSource.lawful c.self.inside.source).few_terminals in
    let t = (took_taken took).terminal in
    omega arith

pub push-requires : goal.push-requires
push-requires g c =
    let src = g.S.StateSource.meaning c.self.inside.source in
    let ws = c.self.inside.words.items in
    let limit = ap (λ v. v.limit) c.self.view_is ∙ c.in_ok-limit.ensures in
    let k = ok_before _ c.take.result c.map_err.result _ c.map_err.ensures.cases c.in_ok-map_err.was in
    let took = subst (λ r. TookWords src ws c.args.terminal c.in_ok-limit.limit c.self.inside.links r c.take.new.self) k (took_of src ws limit c.self.invariant c.take.ensures) in
    (omega arith, (took_taken took).room)

pub invariant_of-self-2 : goal.invariant_of-self-2
invariant_of-self-2 g c =
    let src = g.S.StateSource.meaning c.self.inside.source in
    let ws = c.self.inside.words.items in
    let limit = ap (λ v. v.limit) c.self.view_is ∙ c.in_ok-limit.ensures in
    let k = ok_before _ c.take.result c.map_err.result _ c.map_err.ensures.cases c.in_ok-map_err.was in
    let took = subst (λ r. TookWords src ws c.args.terminal c.in_ok-limit.limit c.self.inside.links r c.take.new.self) k (took_of src ws limit c.self.invariant c.take.ensures) in
    sound_opened src c.push.new.self.items c.take.new.self limit (limit_of src ws c.self.inside.links limit c.self.invariant) (rw c.push.ensures.items (took_taken took).holds)

pub returns : goal.returns
returns g c =
    let m = g.S.StateSource.meaning in
    let src = m c.self.inside.source in
    let ws = c.self.inside.words.items in
    let limit = ap (λ v. v.limit) c.self.view_is ∙ c.in_ok-limit.ensures in
    let k = ok_before _ c.take.result c.map_err.result _ c.map_err.ensures.cases c.in_ok-map_err.was in
    let took = subst (λ r. TookWords src ws c.args.terminal c.in_ok-limit.limit c.self.inside.links r c.take.new.self) k (took_of src ws limit c.self.invariant c.take.ensures) in
    rw (← c.self.view_is) (take_in m (record { source = c.self.inside.source; limit = c.self.inside.limit; words = ws }) c.args.terminal c.in_ok-limit.limit
    c.self.inside.links c.take.new.self c.push.new.self.items limit took c.push.ensures.items)
