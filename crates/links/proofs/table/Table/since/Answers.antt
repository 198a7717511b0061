use Rattle.std.proofs.Common.{◌≡◌, ◌+◌, ◌-◌, min, take, drop, sym, ap, ◌∙◌, arith}
use Rattle.std.proofs.lemmas.List.{drop-take, drop_min}
use Rattle.links.specs.Tables.{content}
use Rattle.links.proofs.Contents.{long}
use Rattle.links.proofs.table.Table.since.Goals as goal

pub returns : goal.returns
returns c =
    let t = c.args.self.now in
    let n = c.min.result in
    let e : n + (t.count - n) ≡ t.count = omega (arith, c.min.ensures) in
    let is : n ≡ min c.args.from t.count = omega (arith, c.min.ensures) in
    sym (drop-take n (t.count - n) t.links) ∙ ap (λ v. drop n (take v t.links)) e
    ∙ ap (λ v. drop v (content t)) (is ∙ ap (λ v. min c.args.from v) (sym (long t))) ∙ drop_min c.args.from (content t)
