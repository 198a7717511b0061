use Rattle.std.proofs.Common.{◌≡◌, ℕ, suc, ◌-◌, ◌<◌, length, None, sym, ap, ◌∙◌, subst, arith}
use Rattle.std.proofs.lemmas.Bool.{cond_below}
use Rattle.parsing.specs.Grammar.{rule_count, lhs, rhs}
use Rattle.parsing.specs.Items.{Source}
use Rattle.grammar.specs.Questions.{left_side, right_length}
use Rattle.link_growth.specs.Entries.{Has}
use Rattle.link_growth.specs.Growth.{Makes, Ends}
use Rattle.link_growth.proofs.Fires.{long_allowed, long_fired, empty_allowed, empty_fired}
use Rattle.links.specs.Sets.{cells_of}
use Rattle.links.specs.Tables.{content}
use Rattle.links.proofs.Contents.{laid_from, both}
use Rattle.links.proofs.links.Links.reduce.Goals as goal

-- What a source answers of a rule that it has.
left_known : (src : Source) {r q x : ℕ} → r < rule_count src.grammar → q ≡ r → x ≡ left_side src.grammar q → x ≡ lhs src.grammar r
left_known src {r} h e is = is ∙ ap (λ v. left_side src.grammar v) e ∙ sym (cond_below r (rule_count src.grammar) (lhs src.grammar r) 255 h)

size_known : (src : Source) {r q n : ℕ} → r < rule_count src.grammar → q ≡ r → n ≡ right_length src.grammar q → length (rhs src.grammar r) ≡ n
size_known src {r} h e is = cond_below r (rule_count src.grammar) (length (rhs src.grammar r)) 255 h ∙ sym (is ∙ ap (λ v. right_length src.grammar v) e)

pub fire-requires : goal.fire-requires
fire-requires g c =
    let src = g.S.StateSource.meaning c.args.over.now.source.now in
    let t = c.args.self.now.table in
    let left = left_known src c.requires.rule c.from.ensures c.left-x.ensures in
    let size = size_known src c.requires.rule c.from-2.ensures c.length-length.ensures in
    let laid = laid_from t c.args.from c.requires.ahead.since c.requires.ahead.until in
    subst (λ v. Ends src v 0 (cells_of c.tops.new.here) (content t) (Makes src None t.place (content t))) (sym left) (empty_allowed laid c.requires.rule (size ∙ c.if-length-eq0.true) c.tops.ensures)

pub returns-then-length-eq0 : goal.returns-then-length-eq0
returns-then-length-eq0 g c =
    let src = g.S.StateSource.meaning c.args.over.now.source.now in
    let t = c.args.self.now.table in
    let v = c.fire.new.table in
    let left = left_known src c.requires.rule c.from.ensures c.left-x.ensures in
    let size = size_known src c.requires.rule c.from-2.ensures c.length-length.ensures in
    let laid = laid_from t c.args.from c.requires.ahead.since c.requires.ahead.until in (
      c.fire.ensures.0,
      both c.fire.result c.fire.ensures.1
          (λ e. empty_fired laid c.requires.rule (size ∙ c.if-length-eq0.true) c.requires.ahead.before c.fire.ensures.0.grown c.tops.ensures
          (subst (λ z. Ends src z 0 (cells_of c.tops.new.here) (content t) (λ s b i. Has (content v) s t.place b i)) left e))
          (λ o. o),
    )

pub descend-requires : goal.descend-requires
descend-requires g c =
    let src = g.S.StateSource.meaning c.args.over.now.source.now in
    let t = c.args.self.now.table in
    let m = c.length-length.result - 1 in
    let left = left_known src c.requires.rule c.from.ensures c.left-x.ensures in
    let size = size_known src c.requires.rule c.from-2.ensures c.length-length.ensures in
    let long : length (rhs src.grammar c.args.rule) ≡ suc m = omega (arith, size, c.if-length-eq0.false) in
    let laid = laid_from t c.args.from c.requires.ahead.since c.requires.ahead.until in
    subst (λ v. Ends src v m (cells_of c.below.new.here) (content t) (Makes src None t.place (content t))) (sym left)
    (long_allowed laid c.requires.rule m long c.below.ensures)

pub returns : goal.returns
returns g c =
    let src = g.S.StateSource.meaning c.args.over.now.source.now in
    let t = c.args.self.now.table in
    let v = c.descend.new.table in
    let m = c.length-length.result - 1 in
    let left = left_known src c.requires.rule c.from.ensures c.left-x.ensures in
    let size = size_known src c.requires.rule c.from-2.ensures c.length-length.ensures in
    let long : length (rhs src.grammar c.args.rule) ≡ suc m = omega (arith, size, c.if-length-eq0.false) in
    let laid = laid_from t c.args.from c.requires.ahead.since c.requires.ahead.until in (
      c.descend.ensures.0,
      both c.descend.result c.descend.ensures.1
          (λ e. long_fired laid c.requires.rule m long c.requires.ahead.fresh c.requires.ahead.before c.descend.ensures.0.grown c.below.ensures
          (subst (λ z. Ends src z m (cells_of c.below.new.here) (content t) (λ s b i. Has (content v) s t.place b i)) left e))
          (λ o. o),
    )
