use Rattle.std.proofs.Common.{◌≡◌, is_some, sym, ap, ◌∙◌, rules}
use Rattle.std.proofs.lemmas.Iterator.{YieldsList-from_slice}
use Rattle.std.proofs.lemmas.Iterator.Search.{any_from_yields_List}
use Rattle.std.specs.List.{list_any}
use Rattle.link_growth.specs.declared.Link.{Link}
use Rattle.links.proofs.Lists.{is_none}
use Rattle.links.proofs.Sieves.{at_place_is}
use Rattle.links.proofs.Places.{none_steps, one_steps}
use Rattle.links.proofs.table.Table.steps.Goals as goal
use Rattle.links.proofs.table.Table.steps.Goals.{else-self-eq0-via-then-self-eq0+else-is_some, else-self-eq0-via-else-self-eq0}

pub returns-clause-some : goal.returns-clause-some
returns-clause-some g c e =
    let src = g.S.StateSource.meaning c.args.word.now.symbol.over.now.source.now in
    let is : c.any.result ≡ list_any (λ (l : Link). is_some (src.next l.state c.args.word.now.symbol.x)) c.of_place.result.now = any_from_yields_List (λ (l : Link). is_some (src.next l.state c.args.word.now.symbol.x)) _ _ _ c.any.ensures.ran (YieldsList-from_slice c.of_place.result.now cc) (λ x b q k. search rules) in
    one_steps src c.args.word.now.symbol.x c.args.self.now (at_place_is c.of_place.ensures) (sym is ∙ e)

pub returns-clause-none : goal.returns-clause-none
returns-clause-none g c e =
    let src = g.S.StateSource.meaning c.args.word.now.symbol.over.now.source.now in
    let is : c.any.result ≡ list_any (λ (l : Link). is_some (src.next l.state c.args.word.now.symbol.x)) c.of_place.result.now = any_from_yields_List (λ (l : Link). is_some (src.next l.state c.args.word.now.symbol.x)) _ _ _ c.any.ensures.ran (YieldsList-from_slice c.of_place.result.now cc) (λ x b q k. search rules) in
    λ s. s.2 (none_steps src c.args.word.now.symbol.x c.args.self.now (at_place_is c.of_place.ensures) (sym is ∙ e)
    (λ z. elim c.else-self-eq0.branch [
      | else-self-eq0-via-then-self-eq0+else-is_some w ↦
          ap (λ v. src.next v c.args.word.now.symbol.x) (sym w.first.ensures) ∙ sym w.next.ensures ∙ is_none w.next.result (sym w.if-is_some.ensures)
      | else-self-eq0-via-else-self-eq0 w ↦ absurd (w.if-self-eq0.false z)
    ]) s.0 s.1)
