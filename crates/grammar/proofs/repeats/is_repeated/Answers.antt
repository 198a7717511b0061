use Rattle.std.proofs.Common.{rules, ◌≡◌, ◌≢◌}
use borrow.Author.Tests.{tests}
use Rattle.std.proofs.lemmas.Iterator.{cases_from_any, YieldsList-from_slice}
use Rattle.grammar.specs.Lists.{items}
use Rattle.grammar.proofs.Repeating.{is_told}
use Rattle.grammar.proofs.repeats.is_repeated.Goals as goal

pub returns : goal.returns
returns c =
    let ws = c.args.spellings.now in
    let xs = c.as_slice-spelling.result.now in
    is_told ws c.args.terminal c.requires _ _ c.index-spellings-terminal.is c.as_slice-spelling.ensures c.any.result
    (cases_from_any _ _ c.any.result (λ w. items w ≡ xs) (λ w. items w ≢ xs) c.any.ensures.ran (YieldsList-from_slice _ (search rules)) (λ x q k. search (rules, tests)) (λ x q k. search (rules, tests)))
