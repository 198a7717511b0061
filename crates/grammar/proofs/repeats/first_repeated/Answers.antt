use Rattle.std.proofs.Common.{ℕ, rules}
use borrow.Author.Tests.{tests}
use Rattle.std.proofs.lemmas.Iterator.{first_from_Range}
use Rattle.grammar.specs.Holding.{words}
use Rattle.grammar.specs.Progress.{Repeated}
use Rattle.grammar.proofs.repeats.first_repeated.Goals as goal

pub returns : goal.returns
returns c =
    let P : ℕ → Type 0 = Repeated (words c.args.spellings.now) in
    first_from_Range _ _ _ c.find.result P (λ t. P t → ⊥) c.find.ensures.ran (λ x q k. search (rules, tests)) (λ x q k. search (rules, tests))
