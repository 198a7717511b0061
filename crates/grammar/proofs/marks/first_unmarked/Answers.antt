use Rattle.std.proofs.Common.{rules, ◌≡◌, true, false, ◌∙◌}
use borrow.Author.Tests.{tests}
use Rattle.std.proofs.lemmas.Iterator.{first_from_Range}
use Rattle.grammar.specs.Marking.{marked}
use Rattle.grammar.proofs.marks.first_unmarked.Goals as goal

pub returns : goal.returns
returns c =
    let m = c.args.marks.now in
    rw (← (c.from-2.ensures ∙ c.symbols.ensures), ← c.from.ensures)
    (first_from_Range _ _ _ c.find.result (λ X. marked m X ≡ false) (λ X. marked m X ≡ true) c.find.ensures.ran
    (λ x q k. search (rules, tests)) (λ x q k. search (rules, tests)))
