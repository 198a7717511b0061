use Rattle.std.proofs.Common.{◌≤◌, ◌≡◌, ◌+◌, ◌<◌, Bool, true, [], length, get_or, set, sym, ◌∙◌, subst, arith}
use Rattle.std.proofs.lemmas.Result.{err_from_is_err_and}
use Rattle.parsing.specs.Grammar.{rhs}
use Rattle.register.specs.Registers.{Grew}
use Rattle.records.specs.Registers.{Alternatives}
use Rattle.records.specs.Orders.{by_alternative}
use Rattle.register.proofs.Growing.{Upto, keyed_all, filled_short, grew_as, lacks_as, grew_put, lacks_put, keyed_taken, keyed_passed, keyed_short}
use Rattle.records.specs.declared.alternative.Alternative.{Alternative}
use Rattle.records.proofs.Faith.{alternative_faithful}
use Rattle.forest.specs.Marks.{goes}
use Rattle.forest.specs.Parts.{Extends}
use Rattle.forest.proofs.Visits.{ended, end_only, shorter, longer, no_next}
use Rattle.forest.proofs.rule_over.RuleOver.+visit.Goals as goal
use Rattle.forest.proofs.rule_over.RuleOver.+visit.Goals.{then-goes+in_ok-visit, else-goes}

pub returns-in_err-_new : goal.returns-in_err-_new
returns-in_err-_new g t c =
    let gr = (g.S.StateSource.meaning c.args.self.now.source.now).grammar in
    let says = g.F.Fits.says c.args.self.now.spans.now in
    let long : length c.args.cuts ≡ 8 = omega arith in
    let q : c.args.p ≡ length (rhs gr c.args.self.now.rule) = c.if-p-parts.true ∙ c.parts.ensures.parts in
    let x : Alternative = record { rule = c.args.self.now.rule; cuts = c.args.cuts } in
    let P : Alternative → Type 0 = Extends gr says c.args.rows.now c.args.self.now.rule c.args.self.now.j c.args.p c.args.cuts in
    let b = err_from_is_err_and c.from_residual.result c.from_residual.ensures.1 in
    filled_short P c.args.alternatives.now c.insert.new.self c.from_residual.result b.0 b.1
    (lacks_as (λ z. z ≡ x) P c.args.alternatives.now c.insert.new.self
    (ended gr says c.args.rows.now c.args.self.now.rule c.args.self.now.j c.args.p c.args.cuts q long c.requires.unused)
    (lacks_put by_alternative c.args.alternatives.now c.insert.new.self x b.0 c.in_err-_new.ensures))

pub returns-then-p-parts : goal.returns-then-p-parts
returns-then-p-parts g t c =
    let gr = (g.S.StateSource.meaning c.args.self.now.source.now).grammar in
    let says = g.F.Fits.says c.args.self.now.spans.now in
    let long : length c.args.cuts ≡ 8 = omega arith in
    let q : c.args.p ≡ length (rhs gr c.args.self.now.rule) = c.if-p-parts.true ∙ c.parts.ensures.parts in
    let x : Alternative = record { rule = c.args.self.now.rule; cuts = c.args.cuts } in
    let P : Alternative → Type 0 = Extends gr says c.args.rows.now c.args.self.now.rule c.args.self.now.j c.args.p c.args.cuts in
    grew_as (λ z. z ≡ x) P c.args.alternatives.now c.insert.new.self
    (ended gr says c.args.rows.now c.args.self.now.rule c.args.self.now.j c.args.p c.args.cuts q long c.requires.unused)
    (end_only gr says c.args.rows.now c.args.self.now.rule c.args.self.now.j c.args.p c.args.cuts q long c.requires.unused)
    (grew_put alternative_faithful c.args.alternatives.now c.insert.new.self x c.in_ok-_new._new c.in_ok-_new.ensures)

pub returns-in_err-visit : goal.returns-in_err-visit
returns-in_err-visit g t c =
    let gr = (g.S.StateSource.meaning c.args.self.now.source.now).grammar in
    let says = g.F.Fits.says c.args.self.now.spans.now in
    let r = c.args.self.now.rule in
    let p = c.args.p in
    let ks = c.args.cuts in
    let rows = c.args.rows.now in
    let j = c.args.self.now.j in
    let k = c.loop-c.c in
    let short : length (rhs (g.S.StateSource.meaning c.args.self.now.source.now).grammar c.args.self.now.rule) ≤ 7 = (let e = c.parts.ensures.parts in let f = c.parts.ensures.few in omega arith) in
    let e = c.parts.ensures.parts in
    let pm : p < length (rhs gr r) = (let l = c.requires.part in let n = c.if-p-parts.false in omega arith) in
    let long : length c.args.cuts ≡ 8 = omega arith in
    let x = c.part-part.ensures in
    let go : Bool → Type 0 = λ b. goes (says (get_or (rhs gr r) p 0)) (get_or rows (p + 1) []) (get_or ks p 0) k ≡ b in
    let S : Alternative → Type 0 = Extends gr says rows r j p ks in
    let Q : Alternative → Type 0 = Extends gr says rows r j (p + 1) (set ks (p + 1) k) in
    let b = err_from_is_err_and c.from_residual-in_err-visit.result c.from_residual-in_err-visit.ensures.1 in
    let h : go true = rw (x.spans, x.symbol, x.next) at (sym c.goes.ensures ∙ c.if-goes.true) in
    filled_short S c.args.alternatives.now c.visit.new.alternatives c.from_residual-in_err-visit.result b.0 b.1
    (keyed_short S (λ (z : Alternative). get_or z.cuts (p + 1) 0) Q c.args.alternatives.now c.loop-c.alternatives c.visit.new.alternatives k
    (λ z w. (shorter gr says rows r j p ks long pm short k (omega arith) h z w).0)
    c.loop-c.invariant c.in_err-visit.ensures)

pub loop-c-preserved : goal.loop-c-preserved
loop-c-preserved g t c =
    let gr = (g.S.StateSource.meaning c.args.self.now.source.now).grammar in
    let says = g.F.Fits.says c.args.self.now.spans.now in
    let r = c.args.self.now.rule in
    let p = c.args.p in
    let ks = c.args.cuts in
    let rows = c.args.rows.now in
    let j = c.args.self.now.j in
    let k = c.loop-c.c in
    let short : length (rhs (g.S.StateSource.meaning c.args.self.now.source.now).grammar c.args.self.now.rule) ≤ 7 = (let e = c.parts.ensures.parts in let f = c.parts.ensures.few in omega arith) in
    let e = c.parts.ensures.parts in
    let pm : p < length (rhs gr r) = (let l = c.requires.part in let n = c.if-p-parts.false in omega arith) in
    let long : length c.args.cuts ≡ 8 = omega arith in
    let x = c.part-part.ensures in
    let go : Bool → Type 0 = λ b. goes (says (get_or (rhs gr r) p 0)) (get_or rows (p + 1) []) (get_or ks p 0) k ≡ b in
    let S : Alternative → Type 0 = Extends gr says rows r j p ks in
    let Q : Alternative → Type 0 = Extends gr says rows r j (p + 1) (set ks (p + 1) k) in
    let G : Alternatives → Type 0 = λ alternatives.
    Grew (Upto S (λ (z : Alternative). get_or z.cuts (p + 1) 0) (k + 1)) c.args.alternatives.now alternatives in
    elim c.if-goes.branch [
      | then-goes+in_ok-visit w ↦
          let h : go true = rw (x.spans, x.symbol, x.next) at (sym c.goes.ensures ∙ w.if-goes.true) in
          subst G (sym w.alternatives-is)
          (keyed_taken S (λ (z : Alternative). get_or z.cuts (p + 1) 0) Q c.args.alternatives.now c.loop-c.alternatives w.visit.new.alternatives k
          (shorter gr says rows r j p ks long pm short k (omega arith) h)
          (longer gr says rows r j p ks long pm short k)
          c.loop-c.invariant w.in_ok-visit.ensures)
      | else-goes w ↦ subst G (sym w.alternatives-is)
          (keyed_passed S (λ (z : Alternative). get_or z.cuts (p + 1) 0) c.args.alternatives.now c.loop-c.alternatives k
          (no_next gr says rows r j p ks long pm short k (rw (x.spans, x.symbol, x.next) at (sym c.goes.ensures ∙ w.if-goes.false)))
          c.loop-c.invariant)
    ]

pub returns-after-goes : goal.returns-after-goes
returns-after-goes g t c =
    let gr = (g.S.StateSource.meaning c.args.self.now.source.now).grammar in
    let says = g.F.Fits.says c.args.self.now.spans.now in
    let r = c.args.self.now.rule in
    let p = c.args.p in
    let ks = c.args.cuts in
    let rows = c.args.rows.now in
    let j = c.args.self.now.j in
    let k = c.loop-c.c in
    let short : length (rhs (g.S.StateSource.meaning c.args.self.now.source.now).grammar c.args.self.now.rule) ≤ 7 = (let e = c.parts.ensures.parts in let f = c.parts.ensures.few in omega arith) in
    let e = c.parts.ensures.parts in
    let pm : p < length (rhs gr r) = (let l = c.requires.part in let n = c.if-p-parts.false in omega arith) in
    let long : length c.args.cuts ≡ 8 = omega arith in
    let x = c.part-part.ensures in
    let go : Bool → Type 0 = λ b. goes (says (get_or (rhs gr r) p 0)) (get_or rows (p + 1) []) (get_or ks p 0) k ≡ b in
    let S : Alternative → Type 0 = Extends gr says rows r j p ks in
    let Q : Alternative → Type 0 = Extends gr says rows r j (p + 1) (set ks (p + 1) k) in
    let G : Alternatives → Type 0 = λ alternatives.
    Grew (Upto S (λ (z : Alternative). get_or z.cuts (p + 1) 0) (k + 1)) c.args.alternatives.now alternatives in
    let turn : G c.if-goes.alternatives =
    elim c.if-goes.branch [
      | then-goes+in_ok-visit w ↦
          let h : go true = rw (x.spans, x.symbol, x.next) at (sym c.goes.ensures ∙ w.if-goes.true) in
          subst G (sym w.alternatives-is)
          (keyed_taken S (λ (z : Alternative). get_or z.cuts (p + 1) 0) Q c.args.alternatives.now c.loop-c.alternatives w.visit.new.alternatives k
          (shorter gr says rows r j p ks long pm short k (omega arith) h)
          (longer gr says rows r j p ks long pm short k)
          c.loop-c.invariant w.in_ok-visit.ensures)
      | else-goes w ↦ subst G (sym w.alternatives-is)
          (keyed_passed S (λ (z : Alternative). get_or z.cuts (p + 1) 0) c.args.alternatives.now c.loop-c.alternatives k
          (no_next gr says rows r j p ks long pm short k (rw (x.spans, x.symbol, x.next) at (sym c.goes.ensures ∙ w.if-goes.false)))
          c.loop-c.invariant)
    ] in
    keyed_all S (λ (z : Alternative). get_or z.cuts (p + 1) 0) c.args.alternatives.now c.if-goes.alternatives (k + 1)
    (λ z w. let l = w.within (p + 1) (omega arith) (omega arith) in omega arith) turn
