use Rattle.std.proofs.Common.{◌≡◌, ◌+◌, ◌-◌, ◌*◌, [], drop, sym, ap, ◌∙◌, arith, eqb-true}
use Rattle.std.proofs.lemmas.List.{nil_from_length}
use Rattle.grammar_format.specs.Fields.{remains, behind_spelling}
use Rattle.inspection.proofs.Places.{remains_none, remains_more}
use Rattle.inspection.proofs.fields.remains.Goals as goal

pub loop-init : goal.loop-init
unfolding remains
loop-init c = c.behind-rest.ensures ∙ ap (λ n. drop (12 + 9 * n) c.args.sheet.now) (c.from.ensures ∙ c.of.ensures.rules_are)

pub returns-then-is_empty : goal.returns-then-is_empty
returns-then-is_empty c =
    let b = c.args.sheet.now in
    let k = c.loop.counter in
    let none : c.loop.rest.now ≡ [] = nil_from_length c.loop.rest.now (eqb-true _ _ (sym c.if-is_empty.ensures)) in
    let e : k + (c.args.terminal - k) ≡ c.args.terminal = omega arith in
    none ∙ sym (remains_none b (c.args.terminal - k) k (sym c.loop.invariant ∙ none)) ∙ ap (remains b) e

pub loop-preserved : goal.loop-preserved
loop-preserved c = c.split_spelling.ensures.behind ∙ ap behind_spelling c.loop.invariant ∙ remains_more c.args.sheet.now c.loop.counter
