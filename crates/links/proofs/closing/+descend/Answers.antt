use Rattle.std.proofs.Common.{◌≡◌, ℕ, suc, ◌-◌, None, sym, subst, arith}
use Rattle.link_growth.specs.Entries.{Has}
use Rattle.link_growth.specs.Growth.{Makes, Ends}
use Rattle.links.specs.Sets.{cells_of}
use Rattle.links.specs.Tables.{content}
use Rattle.links.proofs.Contents.{both}
use Rattle.links.proofs.Rounds.{ends_step, ends_back}
use Rattle.links.proofs.closing.+descend.Goals as goal

pub descend-requires : goal.descend-requires
descend-requires g t c κs =
    let s = c.args.symbol.now in
    let src = g.S.StateSource.meaning s.over.now.source.now in
    let u = c.args.table.now in
    let m = c.args.steps - 1 in
    let is : c.args.steps ≡ suc m = omega (arith, c.if-steps-eq0.false) in
    let Q : ℕ → ℕ → ℕ → Type 0 = Makes src None u.place (content u) in
    λ live. (
      omega (arith, c.if-steps-eq0.false, c.decreases),
      (live, ends_step src s.x m Q c.spread.ensures (subst (λ v. Ends src s.x v (cells_of c.args.here.now) (content u) Q) is c.requires)),
    )

pub returns : goal.returns
returns g t c =
    let s = c.args.symbol.now in
    let src = g.S.StateSource.meaning s.over.now.source.now in
    let u = c.args.table.now in
    let v = c.descend.new.table in
    let m = c.args.steps - 1 in
    let is : c.args.steps ≡ suc m = omega (arith, c.if-steps-eq0.false) in
    let Q : ℕ → ℕ → ℕ → Type 0 = λ s b i. Has (content v) s u.place b i in (
      c.descend.ensures.0,
      both c.descend.result c.descend.ensures.1
          (λ e. subst (λ z. Ends src s.x z (cells_of c.args.here.now) (content u) Q) (sym is) (ends_back src s.x m Q c.spread.ensures e))
          (λ o. o),
    )
