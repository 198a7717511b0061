use Rattle.std.proofs.Common.{◌≡◌, ◌-◌, ◌++◌, length, take, replicate, ap, ◌∙◌, rules, arith}
use Rattle.std.proofs.lemmas.List.{length-take-le}
use Rattle.register.proofs.Shifting.{all_alike, part_replaced}
use Rattle.register.proofs.register.Register.fill_rest.Goals as goal

pub returns-clause-slots : goal.returns-clause-slots
returns-clause-slots g c =
    let xs = c.args.self.now.slots.now in
    let n = c.args.self.now.count in
    let ys = c.fill_with.new.self in
    let (last, ran) = c.fill_with.ensures.ran in
    let e : length ys ≡ length xs - length (take n xs) = (let h = length-take-le n xs c.args.self.now.within in let l = c.fill_with.ensures.len in omega arith) in
    part_replaced xs ys n (let l = c.fill_with.ensures.len in omega arith)
    ∙ ap (λ zs. take n xs ++ zs) (all_alike _ c.args.x _ (λ y q r. search rules) ys last ran ∙ ap (λ m. replicate m c.args.x) e)
