use Rattle.std.proofs.Common.{rules, ◌≡◌, false, Err, sym, ap, ◌∙◌, true≢false}
use Rattle.links.proofs.Words.{has_words}
use Rattle.reader.specs.declared.fault.ReadingFault.TheVariants.{Closed}
use Rattle.reader.proofs.Calling.{holds_of}
use Rattle.reader.proofs.Verdicts.{not_accepted, told_accepted, judge_out, judge_in}
use Rattle.reader.proofs.reading.Reading.judge.Goals as goal

pub returns-in_err-_limit : goal.returns-in_err-_limit
returns-in_err-_limit g c =
    let why : c.from_residual.result ≡ Err Closed = search rules in
    rw why (judge_out g.S.StateSource.meaning c.args.self.now c.in_err-_limit.ensures.1)

pub returns-in_default : goal.returns-in_default
returns-in_default g c =
    let m = g.S.StateSource.meaning in
    let src = m c.self.inside.source in
    let ws = c.self.inside.words.items in
    let limit = ap (λ v. v.limit) c.self.view_is ∙ c.in_ok-_limit.ensures in
    let none = not_accepted src (g.met.S.StateSource.lawful c.self.inside.source).well_formed ws c.first-first.result c.right.result c.first-first.ensures c.right.ensures
    (sym c.next.ensures ∙ c.in_default.is) in
    rw (← c.self.view_is) (judge_in m (record { source = c.self.inside.source; limit = c.self.inside.limit; words = ws }) c.in_ok-_limit._limit false limit
    ((λ e. absurd (true≢false (sym e))), (λ a. absurd (none a))))

pub returns : goal.returns
returns g c =
    let m = g.S.StateSource.meaning in
    let src = m c.self.inside.source in
    let ws = c.self.inside.words.items in
    let limit = ap (λ v. v.limit) c.self.view_is ∙ c.in_ok-_limit.ensures in
    let told = told_accepted src (g.met.S.StateSource.lawful c.self.inside.source).well_formed ws c.first-first.result c.right.result c.first-first.ensures c.right.ensures
    c.in-Some.state c.len.result c.has.result (sym c.next.ensures ∙ c.in-Some.is) c.len.ensures.value
    (has_words (holds_of src ws c.self.inside.links limit c.self.invariant) _ c.has.ensures) in
    rw (← c.self.view_is) (judge_in m (record { source = c.self.inside.source; limit = c.self.inside.limit; words = ws }) c.in_ok-_limit._limit c.has.result limit told)
