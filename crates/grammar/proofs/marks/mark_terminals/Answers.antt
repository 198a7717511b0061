use Rattle.std.proofs.Common.{◌≡◌, ℕ, length, take, replicate, true, false, ltb, ap, ◌∙◌, arith}
use Rattle.std.proofs.lemmas.List.{length-take-le, length-replicate}
use Rattle.grammar.proofs.Marking.{front_marked}
use Rattle.grammar.proofs.marks.mark_terminals.Goals as goal

pub returns : goal.returns
returns c X =
    let n = c.from-terminals.result in
    let e : c.fill.new.self ≡ replicate (length (take n (replicate 256 false))) true = c.fill.ensures.after (λ y h. h) in
    let l : length (take n (replicate 256 false)) ≡ n = length-take-le n (replicate 256 false) (omega (arith, length-replicate 256 false)) in
    front_marked n 256 c.fill.new.self (e ∙ ap (λ (k : ℕ). replicate k true) l) X ∙ ap (ltb X) c.from-terminals.ensures
