use Rattle.std.proofs.Common.{rules, ◌≡◌, Err, ap, ◌∙◌, arith}
use Rattle.links.proofs.Words.{back_words}
use Rattle.reader.specs.declared.fault.ReadingFault.TheVariants.{Closed}
use Rattle.reader.proofs.Calling.{limit_of, holds_of, sound_opened, back_out, back_over, back_in}
use Rattle.reader.proofs.reading.Reading.back.Goals as goal

pub returns-in_err-_limit : goal.returns-in_err-_limit
returns-in_err-_limit g c =
    let why : c.from_residual.result ≡ Err Closed = search rules in
    rw why (back_out g.S.StateSource.meaning c.args.self.now c.args.words c.in_err-_limit.ensures.1)

pub returns-then-words-kept : goal.returns-then-words-kept
returns-then-words-kept g c =
    let limit = ap (λ v. v.limit) c.self.view_is ∙ c.in_ok-_limit.ensures in
    rw (c.len-kept.ensures.value, ← c.self.view_is) (back_over g.S.StateSource.meaning (record { source = c.self.inside.source; limit = c.self.inside.limit; words = c.self.inside.words.items })
    c.args.words c.in_ok-_limit._limit limit (omega (arith, c.len-kept.ensures.value, c.if-words-kept.true)))

pub invariant_of-self : goal.invariant_of-self
invariant_of-self g c =
    let src = g.S.StateSource.meaning c.self.inside.source in
    let ws = c.self.inside.words.items in
    let limit = ap (λ v. v.limit) c.self.view_is ∙ c.in_ok-_limit.ensures in
    sound_opened src c.truncate.new.self.items c.back.new.self limit (limit_of src ws c.self.inside.links limit c.self.invariant)
    (rw c.truncate.ensures.items (back_words (holds_of src ws c.self.inside.links limit c.self.invariant) c.back.ensures))

pub returns : goal.returns
returns g c =
    let limit = ap (λ v. v.limit) c.self.view_is ∙ c.in_ok-_limit.ensures in
    rw (← c.self.view_is) (back_in g.S.StateSource.meaning (record { source = c.self.inside.source; limit = c.self.inside.limit; words = c.self.inside.words.items })
    c.args.words c.in_ok-_limit._limit c.truncate.new.self.items limit (omega (arith, c.len-kept.ensures.value, c.if-words-kept.false)) c.truncate.ensures.items)
