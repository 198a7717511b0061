use Rattle.std.proofs.Common.{◌≡◌, ℕ, None, Some, MatchResult, sym, ap, ◌∙◌, subst}
use Rattle.link_growth.specs.Entries.{Has}
use Rattle.link_growth.specs.Growth.{Makes}
use Rattle.links.specs.Tables.{content}
use Rattle.links.proofs.Contents.{Placed, Turned, somewhere, turned_by, placed_grown, placed_has, turned_grown, turned_overfull, either, both}
use Rattle.links.proofs.Rounds.{along_same}
use Rattle.links.proofs.Keeps.{first_makes}
use Rattle.links.proofs.table.Table.shift_first.Goals as goal

pub returns-then-self-ne1 : goal.returns-then-self-ne1
returns-then-self-ne1 g c =
    let s = c.args.word.now.symbol in
    (along_same (g.S.StateSource.meaning s.over.now.source.now) (Some s.x) c.args.self.now s.over.now.limit, λ s e n. absurd (c.if-self-ne1.true e))

pub returns-in_default : goal.returns-in_default
returns-in_default g c =
    let x = c.args.word.now.symbol in
    let src = g.S.StateSource.meaning x.over.now.source.now in
    let none : src.next src.first x.x ≡ None = ap (λ b. src.next b x.x) (sym c.first-first.ensures) ∙ sym c.next.ensures ∙ c.in_default.is in
    (along_same src (Some x.x) c.args.self.now x.over.now.limit, λ s e n. let bad : None ≡ Some s = sym none ∙ n in absurd (cc))

pub returns : goal.returns
returns g c =
    let src = g.S.StateSource.meaning c.args.word.now.symbol.over.now.source.now in
    let t = c.args.self.now in
    let v = c.put.new.self in
    let x = c.args.word.now.symbol.x in
    let n = c.args.word.now.symbol.over.now.limit in
    let f = c.first-first.ensures in
    let steps : src.next c.first-first.result x ≡ Some c.in-Some.state = sym c.next.ensures ∙ c.in-Some.is in
    let put : MatchResult c.put.result (λ _. Placed src t.place x c.first-first.result 0 (content t) (content v)) (λ _. Turned src t.place x c.first-first.result 0 n (content t) (content v)) =
    both c.put.result c.put.ensures.cases (somewhere c.in-Some.state steps) (turned_by steps) in
    let made : (s : ℕ) → src.next c.first-first.result x ≡ Some s → Makes src (Some x) t.place (content t) s c.first-first.result 0 =
    (λ s n. subst (λ z. Makes src (Some x) t.place (content t) s z 0) (sym f) (first_makes x t c.args.word.now.terminal c.if-self-ne1.false s (ap (λ z. src.next z x) (sym f) ∙ n))) in (
      record { kept = c.put.ensures.kept; grown = either c.put.result put (λ p. placed_grown p made) turned_grown },
      both c.put.result put
          (λ p s e n. subst (λ z. Has (content v) s t.place z 0) f (placed_has p s (ap (λ z. src.next z x) f ∙ n)))
          (λ p. turned_overfull p made),
    )
