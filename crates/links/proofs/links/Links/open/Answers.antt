use Rattle.std.proofs.Common.{◌<◌, ◌≤◌, subst}
use Rattle.links.specs.Holding.{Blank, most, Opened}
use Rattle.links.proofs.Calls.{blank_count, again_refused, again_opened}
use Rattle.links.proofs.links.Links.open.Goals as goal
use Rattle.links.proofs.links.Links.open.Goals.{else-self-eq0-via-then-self-eq0+else-self-eq0-2, else-self-eq0-via-else-self-eq0}

pub returns-then-self-eq0-2 : goal.returns-then-self-eq0-2
returns-then-self-eq0-2 g c =
    subst (λ n. Opened (g.S.StateSource.meaning c.args.source.now) n c.args.self.now c.begin.result c.begin.new.self) c.new-over.ensures.limit
    (subst (λ s. Opened (g.S.StateSource.meaning s) c.new-over.result.limit c.args.self.now c.begin.result c.begin.new.self) c.new-over.ensures.source c.begin.ensures)

pub returns-then-start_of-over : goal.returns-then-start_of-over
returns-then-start_of-over g c =
    let l = c.args.self.now in
    let some : Blank l → ⊥ =
    (λ b. elim c.else-self-eq0.branch [ else-self-eq0-via-then-self-eq0+else-self-eq0-2 w ↦ w.if-self-eq0-2.false (blank_count b) | else-self-eq0-via-else-self-eq0 w ↦ w.if-self-eq0.false b.place ]) in
    again_refused (g.S.StateSource.meaning c.args.source.now) l c.start_of.result (most c.args.limit) c.start_of.ensures some _
    (subst (λ v. v < c.start_of.result) c.new-over.ensures.limit c.if-start_of-over.true)

pub returns : goal.returns
returns g c =
    let l = c.args.self.now in
    let some : Blank l → ⊥ =
    (λ b. elim c.else-self-eq0.branch [ else-self-eq0-via-then-self-eq0+else-self-eq0-2 w ↦ w.if-self-eq0-2.false (blank_count b) | else-self-eq0-via-else-self-eq0 w ↦ w.if-self-eq0.false b.place ]) in
    again_opened (g.S.StateSource.meaning c.args.source.now) l c.start_of.result (most c.args.limit) c.start_of.ensures some
    (record { table = c.cut.new.self; here = l.here; there = l.there }) (subst (λ v. c.start_of.result ≤ v) c.new-over.ensures.limit c.if-start_of-over.false) c.cut.ensures
