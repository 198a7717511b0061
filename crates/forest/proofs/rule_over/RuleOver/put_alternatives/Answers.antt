use Rattle.std.proofs.Common.{◌≤◌, arith, ◌≡◌, length, get_or, ap, ◌∙◌}
use Rattle.parsing.specs.Grammar.{rhs}
use Rattle.register.proofs.Growing.{filled_as}
use Rattle.forest.specs.Parts.{Extends, Whole}
use Rattle.forest.proofs.Visits.{extends_whole, whole_extends}
use Rattle.forest.proofs.rule_over.RuleOver.put_alternatives.Goals as goal
use Rattle.forest.proofs.rule_over.RuleOver.put_alternatives.Goals.{else-parts-eq0-via-then-parts-eq0+else-self, else-parts-eq0-via-else-parts-eq0}

pub returns : goal.returns
returns g c =
    let gr = (g.S.StateSource.meaning c.args.self.now.source.now).grammar in
    let says = g.F.Fits.says c.args.self.now.spans.now in
    let forward = g.met.F.Fits.forward c.args.self.now.spans.now in
    let r = c.args.self.now.rule in
    let i = c.args.self.now.i in
    let j = c.args.self.now.j in
    let rows = c.completes.result in
    let ks = c.cuts_from.result in
    let first : get_or ks 0 0 ≡ i = ap (λ t. get_or t 0 0) c.cuts_from.ensures in
    let short : length (rhs gr r) ≤ 7 = (let e = c.parts.ensures.parts in let f = c.parts.ensures.few in omega arith) in
    let e : c.parts.result ≡ length (rhs gr r) = c.parts.ensures.parts in
    let none : length (rhs gr r) ≡ 0 → i ≡ j = λ z. elim c.else-parts-eq0.branch [
      | else-parts-eq0-via-then-parts-eq0+else-self w ↦ w.if-self.false
      | else-parts-eq0-via-else-parts-eq0 w ↦ absurd (w.if-parts-eq0.false (e ∙ z))
    ] in
    filled_as (Extends gr says rows r j 0 ks) (Whole gr says r i j) c.args.alternatives.now c.visit.new.alternatives c.visit.result
    (extends_whole gr says forward r i j rows short c.completes.ensures ks first none)
    (whole_extends gr says forward r i j rows short c.completes.ensures ks first)
    c.visit.ensures
