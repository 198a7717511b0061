use Rattle.std.proofs.Common.{◌≡◌, ◌+◌, ◌-◌, ◌*◌, ◌^◌, min, ◌∙◌, arith, length}
use Rattle.inspection.proofs.Places.{take_cut, block_cut}
use Rattle.inspection.proofs.fields.block.Goals as goal

pub returns : goal.returns
returns c =
    let rest = c.behind-rest.result.now in
    let m : c.saturating_add.result ≡ min (12 + 9 * c.args.rule) (2 ^ 64 - 1) = omega (arith, c.saturating_add.ensures, c.saturating_mul.ensures) in
    let n : c.min.result ≡ min 9 (length rest) = omega (arith, c.min.ensures) in
    take_cut rest 9 (c.min.result) n
    ∙ block_cut c.args.sheet.now c.args.rule c.saturating_add.result rest (omega arith) m c.behind-rest.ensures
