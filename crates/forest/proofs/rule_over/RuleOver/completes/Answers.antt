use Rattle.std.proofs.Common.{◌≡◌, ℕ, ◌+◌, ◌-◌, ◌≤◌, true, [], length, get_or, replicate, sym, refl, subst, arith}
use Rattle.parsing.specs.Grammar.{rhs}
use Rattle.spans.specs.Spans.{part_fits}
use Rattle.forest.specs.Marks.{Begins, Completes}
use Rattle.forest.proofs.Rows.{completes_none, completes_more}
use Rattle.forest.proofs.rule_over.RuleOver.completes.Goals as goal

pub loop-p-init : goal.loop-p-init
loop-p-init g c =
    let gr = (g.S.StateSource.meaning c.args.self.now.source.now).grammar in
    let r = c.args.self.now.rule in
    let m = length (rhs gr r) in
    let f = part_fits gr (g.F.Fits.says c.args.self.now.spans.now) r in
    let forward : (p a b : ℕ) → f p a b ≡ true → a ≤ b = λ p a b. g.met.F.Fits.forward c.args.self.now.spans.now (get_or (rhs gr r) p 0) a b in
    let e : c.parts-p.result ≡ m = c.parts-p.ensures.parts in
    let short : m ≤ 7 = (let f = c.parts-p.ensures.few in omega arith) in (
      omega arith,
      subst (λ k. Completes f m c.args.self.now.i c.args.self.now.j (replicate 8 c.one_mark-rows.result) k) (sym e)
          (completes_none f forward m c.args.self.now.i c.args.self.now.j (replicate 8 c.one_mark-rows.result) c.one_mark-rows.result (omega arith) short refl c.one_mark-rows.ensures),
    )

pub loop-p-preserved : goal.loop-p-preserved
loop-p-preserved g c =
    let gr = (g.S.StateSource.meaning c.args.self.now.source.now).grammar in
    let r = c.args.self.now.rule in
    let m = length (rhs gr r) in
    let says = g.F.Fits.says c.args.self.now.spans.now in
    let f = part_fits gr says r in
    let forward : (p a b : ℕ) → f p a b ≡ true → a ≤ b = λ p a b. g.met.F.Fits.forward c.args.self.now.spans.now (get_or (rhs gr r) p 0) a b in
    let short : length (rhs (g.S.StateSource.meaning c.args.self.now.source.now).grammar c.args.self.now.rule) ≤ 7 = (let e = c.parts-p.ensures.parts in let f = c.parts-p.ensures.few in omega arith) in
    let p = c.loop-p.p - 1 in
    let l = c.loop-p.invariant.0 in
    let k : c.loop-p.p ≡ p + 1 = omega arith in
    let x = c.part.ensures in
    let begins : Begins (says (get_or (rhs gr r) p 0)) c.args.self.now.i c.args.self.now.j (get_or c.loop-p.rows (p + 1) []) c.begins-row.result =
    rw (x.spans, x.symbol, x.next, x.from, x.to) at c.begins-row.ensures in (
      omega arith,
      completes_more f forward m c.args.self.now.i c.args.self.now.j p c.loop-p.rows c.begins-row.result (omega arith) short
          begins
          (subst (λ t. Completes f m c.args.self.now.i c.args.self.now.j c.loop-p.rows t) k c.loop-p.invariant.1),
    )
