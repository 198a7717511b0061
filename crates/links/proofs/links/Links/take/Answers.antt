use Rattle.std.proofs.Common.{◌≡◌, ◌<◌, ◌≤◌, Err, refl, ap, sym, ◌∙◌, subst, ⊎_elim, arith, rules}
use Rattle.std.proofs.lemmas.Bool.{cases_lt}
use Rattle.link_growth.specs.Closures.{StepsFrom}
use Rattle.links.specs.declared.fault.TakeFault.TheVariants.{NoTerminal}
use Rattle.links.specs.Holding.{full, foreign, stuck}
use Rattle.links.specs.Tables.{content}
use Rattle.links.proofs.Contents.{in_ok, in_err}
use Rattle.links.proofs.Calls.{same_as, one_more, too_many}
use Rattle.links.proofs.links.Links.take.Goals as goal

pub returns-then-place-ge254 : goal.returns-then-place-ge254
returns-then-place-ge254 g c = full refl c.if-place-ge254.true (same_as c.args.self.now)

pub returns-in_err-x : goal.returns-in_err-x
returns-in_err-x g c =
    let src = g.S.StateSource.meaning c.args.source.now in
    let few = (g.met.S.StateSource.lawful c.args.source.now).few_terminals in
    let no_byte : c.args.terminal < 256 → ⊥ = search rules in
    let fault : c.from_residual.result ≡ Err NoTerminal = search rules in
    let big : src.grammar.terminals ≤ c.args.terminal =
    ⊎_elim (λ (lt : c.args.terminal < 256). absurd (no_byte lt)) (λ (le : 256 ≤ c.args.terminal). omega arith) (cases_lt c.args.terminal 256) in
    rw fault (foreign refl c.if-place-ge254.false big (same_as c.args.self.now))

pub returns-then-x-terminals : goal.returns-then-x-terminals
returns-then-x-terminals g c =
    let is : c.in_ok-x.x ≡ c.args.terminal = search rules in
    foreign refl c.if-place-ge254.false (omega (arith, is, c.terminals.ensures, c.if-x-terminals.true)) (same_as c.args.self.now)

pub returns-then-not-steps : goal.returns-then-not-steps
returns-then-not-steps g c =
    let src = g.S.StateSource.meaning c.args.source.now in
    let t = c.args.self.now.table in
    let is : c.in_ok-x.x ≡ c.args.terminal = search rules in
    let none : StepsFrom src (content t) t.place c.args.terminal → ⊥ =
    subst (λ v. StepsFrom src (content t) t.place v → ⊥) is
    (subst (λ z. StepsFrom z (content t) t.place c.in_ok-x.x → ⊥) (ap g.S.StateSource.meaning c.new-over.ensures.source)
    (c.steps.ensures.none c.if-not-steps.true)) in
    stuck refl c.if-place-ge254.false (omega (arith, is, c.terminals.ensures, c.if-x-terminals.false)) none (same_as c.args.self.now)

pub returns-then-is_err : goal.returns-then-is_err
returns-then-is_err g c =
    let src = g.S.StateSource.meaning c.args.source.now in
    let made = g.S.StateSource.meaning c.new-over.result.source.now in
    let t = c.args.self.now.table in
    let b = c.begin.new.self in
    let v = c.extend.new.self.table in
    let is : c.in_ok-x.x ≡ c.args.terminal = search rules in
    let meant : made ≡ src = ap g.S.StateSource.meaning c.new-over.ensures.source in
    let some = subst (λ v. StepsFrom src (content t) t.place v) is
    (subst (λ z. StepsFrom z (content t) t.place c.in_ok-x.x) meant (c.steps.ensures.some c.if-not-steps.false)) in
    let over = in_err c.extend.result _ (sym c.is_err.ensures.value ∙ c.if-is_err.true) c.extend.ensures.1 in
    too_many src c.args.terminal c.args.self.now b c.new-over.result.limit _ c.if-place-ge254.false
    (omega (arith, is, c.terminals.ensures, c.if-x-terminals.false)) some c.begin.ensures c.new-over.ensures.limit made c.in_ok-x.x meant is
    v (record { table = c.cut.new.self; here = c.extend.new.self.here; there = c.extend.new.self.there }) c.extend.ensures.0 over c.cut.ensures

pub returns : goal.returns
returns g c =
    let src = g.S.StateSource.meaning c.args.source.now in
    let made = g.S.StateSource.meaning c.new-over.result.source.now in
    let t = c.args.self.now.table in
    let is : c.in_ok-x.x ≡ c.args.terminal = search rules in
    let meant : made ≡ src = ap g.S.StateSource.meaning c.new-over.ensures.source in
    let some = subst (λ v. StepsFrom src (content t) t.place v) is
    (subst (λ z. StepsFrom z (content t) t.place c.in_ok-x.x) meant (c.steps.ensures.some c.if-not-steps.false)) in
    let done = in_ok c.extend.result _ (sym c.is_err.ensures.value ∙ c.if-is_err.false) c.extend.ensures.1 in
    one_more src c.args.terminal c.args.self.now c.begin.new.self c.new-over.result.limit _ c.if-place-ge254.false
    (omega (arith, is, c.terminals.ensures, c.if-x-terminals.false)) some c.begin.ensures c.new-over.ensures.limit made c.in_ok-x.x meant is
    c.extend.new.self c.extend.ensures.0 done
