use Rattle.std.proofs.Common.{◌≡◌, ◌-◌, false, length, take, drop, ap, ◌∙◌, arith, rules, tests}
use Rattle.std.proofs.lemmas.Iterator.{YieldsList-from_slice}
use Rattle.std.proofs.lemmas.Iterator.Search.{position_from_yields_List}
use Rattle.std.proofs.lemmas.List.{take_rest}
use Rattle.words.specs.Runs.{front, unremarked}
use Rattle.words.proofs.Scanning.{ends, front_found}
use Rattle.words.proofs.runs.run_end.Goals as goal

pub returns-clause-value : goal.returns-clause-value
returns-clause-value c =
    let xs = c.args.text.now in
    let i = c.args.from in
    let rest = take (length xs - i) (drop i xs) in
    let e = front_found rest c.position-length.result (position_from_yields_List ends _ _ c.position-length.result c.position-length.ensures.ran (YieldsList-from_slice rest (cc)) (λ x b q k. search (rules, tests))) in
    let f : c.unwrap_or.result ≡ length (front (unremarked false (drop i xs))) = c.unwrap_or.ensures ∙ e ∙ ap (λ ys. length (front (unremarked false ys))) (take_rest xs i) in
    omega (arith, f)
