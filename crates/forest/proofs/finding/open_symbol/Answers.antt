use Rattle.std.proofs.Common.{◌≡◌, ℕ, ◌<◌, List, true, false, length, get_or, MatchOption, ap, ◌∙◌, sym, subst, rules}
use borrow.Author.Tests.{tests}
use Rattle.std.specs.Iterator.Adapters.{take_while_callee, take_while_done}
use Rattle.std.specs.List.{AllWithin, HoldsAt}
use Rattle.std.proofs.lemmas.Iterator.{YieldsList-from_slice, YieldsList-from_map, first_from_find}
use Rattle.std.proofs.lemmas.Iterator.Search.{YieldsList-from_take_while}
use Rattle.register.specs.Lists.{Climbs}
use Rattle.records.specs.Orders.{node_cmp}
use Rattle.records.specs.declared.node.Node.{Node}
use Rattle.forest.specs.Finding.{AllDone, Open}
use Rattle.forest.proofs.Ordering.{stands, tail, symbols, run_done, run_open, match_as}
use Rattle.forest.proofs.finding.open_symbol.Goals as goal

pub returns : goal.returns
returns c =
    let us = c.records-records.result.now in
    let i = c.args.i in
    let j = c.args.j in
    let done = c.args.done.now in
    let up : Climbs node_cmp us = subst (λ (vs : List Node). Climbs node_cmp vs) (sym c.records-records.ensures) c.args.nodes.now.in_order in
    let k = c.lower_bound.result in
    let b = c.lower_bound.ensures in
    let all = symbols us i j k b in
    let No : ℕ → Type 0 = λ x. get_or done x false ≡ true in
    let Yes : ℕ → Type 0 = λ x. get_or done x false ≡ false in
    let Found : ℕ → Type 0 = λ x. Yes x × (t : ℕ) × (t < length all) × HoldsAt (λ y. y ≡ x) all t × AllWithin No all 0 t in
    let found : MatchOption c.find.result (AllWithin No all 0 (length all)) Found =
    first_from_find _ _ c.find.result Yes No c.find.ensures.ran
    (YieldsList-from_map _ (λ (y : Node). y.symbol)
    (YieldsList-from_take_while _ (stands i j) (YieldsList-from_slice (tail us i j k b) (cc)) (ap take_while_callee c.map.ensures.source ∙ c.take_while.ensures.closure) (ap take_while_done c.map.ensures.source ∙ c.take_while.ensures.done) (λ x r q h. search (rules, tests)))
    c.map.ensures.closure (λ x r q h. search rules))
    (λ x q h. search (rules, tests)) (λ x q h. search (rules, tests)) in
    subst (λ (vs : List Node). MatchOption c.find.result (AllDone vs i j done) (Open vs i j done)) c.records-records.ensures
    (match_as c.find.result (AllWithin No all 0 (length all)) (AllDone us i j done) Found (Open us i j done)
    (λ h. run_done us i j k b done h up)
    (λ x e h. run_open us i j k b done x h.1 (search rules) h.0 h.2 h.3)
    found)
