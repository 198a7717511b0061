use Rattle.std.proofs.Common.{length, sum_by, ap, ◌∙◌, arith}
use Rattle.grammar.specs.Holding.{spelling_piece}
use Rattle.grammar.proofs.Pieces.{size_is, size_few}
use Rattle.grammar.proofs.grammar.Grammar.size.Goals as goal

pub overflow_add-result : goal.overflow_add-result
overflow_add-result c =
    let e = c.spellings_len.ensures ∙ ap (sum_by (λ w. length (spelling_piece w))) c.as_slice.ensures in
    omega (arith, size_is c.args.self.now, size_few c.args.self.now)

pub returns-clause-value : goal.returns-clause-value
returns-clause-value c =
    let e = c.spellings_len.ensures ∙ ap (sum_by (λ w. length (spelling_piece w))) c.as_slice.ensures in
    omega (arith, size_is c.args.self.now)

pub returns-clause-bound : goal.returns-clause-bound
returns-clause-bound c =
    let e = c.spellings_len.ensures ∙ ap (sum_by (λ w. length (spelling_piece w))) c.as_slice.ensures in
    omega (arith, size_is c.args.self.now, size_few c.args.self.now)
