use Rattle.std.proofs.Common.{Result, Err, ◌≡◌, ◌≤◌, List, [], length, sym, refl, ap, subst, inl, inr, arith, rules}
use Rattle.std.proofs.lemmas.List.{length-take-le}
use Rattle.register.specs.declared.register.Full.{Full}
use Rattle.register.specs.Lists.{Has, More}
use Rattle.register.specs.Registers.{held, room, Filled}
use Rattle.register.proofs.Growing.{more_from, has_none}
use Rattle.records.specs.Registers.{Nodes}
use Rattle.records.specs.declared.node.Node.{Node}
use Rattle.records.specs.declared.alternative.Alternative.{Alternative}
use Rattle.records.specs.Blanks.{blank_node, blank_alternative}
use Rattle.forest.specs.Refusals.{refusal}
use Rattle.forest.specs.Sweeps.{Collected, MetNode, Exactly, OfSome}
use Rattle.forest.specs.Forests.{MetRecord, Overfull, Writes}
use Rattle.forest.specs.declared.gathering.Counts.{Counts}
use Rattle.forest.specs.declared.fault.GatherFault.{GatherFault}
use Rattle.forest.specs.declared.fault.GatherFault.TheVariants.{NodesShort, AlternativesShort}
use Rattle.forest.proofs.Mapped.{ok_before, err_before}
use Rattle.forest.proofs.Sizes.{enough}
use Rattle.forest.proofs.Records.{of_met, met_of}
use Rattle.forest.proofs.Answering.{lists}
use Rattle.forest.proofs.gathering.write.Goals as goal

-- A register holds no more than it has room for.
held_few : (a : Nodes) → length (held a) ≤ room a
held_few a = let w = a.within in let l = length-take-le a.count a.slots.now w in omega arith

-- What is told of lists that are too short.
overfull : (P : Node → Type 0) (Q : Alternative → Type 0) (xs vs : List Node) (ys zs : List Alternative) (r : Result Counts GatherFault) (f : GatherFault)
    → r ≡ Err f → Overfull P Q xs ys (refusal f) → Writes P Q xs ys vs zs r
overfull P Q xs vs ys zs r f e h = subst (λ (q : Result Counts GatherFault). Writes P Q xs ys vs zs q) (sym e) h

pub returns-in_err-map_err : goal.returns-in_err-map_err
returns-in_err-map_err g c =
    let gr = (g.S.StateSource.meaning c.args.source.now).grammar in
    let says = g.F.Fits.says c.args.spans.now in
    let n = c.args.last in
    let a = c.new-node_register.result in
    let b = c.put_all_nodes.new.nodes in
    let (q, k) = err_before _ c.put_all_nodes.result c.map_err.result _ c.map_err.ensures.cases c.in_err-map_err.was in
    let e = subst (λ (r : Result (Unit {0}) Full). Collected gr says n a b r) k c.put_all_nodes.ensures in
    let why : c.from_residual.result ≡ Err NodesShort = search rules in
    overfull (MetNode gr says n) (MetRecord gr says n) c.args.nodes.now _ c.args.alternatives.now _ c.from_residual.result NodesShort why
    (inl (refl, subst (λ t. More (MetNode gr says n) [] t) (ap length c.new-node_register.ensures.slots) e.1))

pub returns-in_err-map_err-2 : goal.returns-in_err-map_err-2
returns-in_err-map_err-2 g c =
    let gr = (g.S.StateSource.meaning c.args.source.now).grammar in
    let wf = (g.met.S.StateSource.lawful c.args.source.now).well_formed in
    let says = g.F.Fits.says c.args.spans.now in
    let n = c.args.last in
    let a = c.new-node_register.result in
    let b = c.put_all_nodes.new.nodes in
    let e = subst (λ (r : Result (Unit {0}) Full). Collected gr says n a b r) (ok_before _ c.put_all_nodes.result c.map_err.result _ c.map_err.ensures.cases c.in_ok-map_err.was) c.put_all_nodes.ensures in
    let a' = c.new-alternative_register.result in
    let none = c.new-alternative_register.ensures.none in
    let us = c.records.result.now in
    let (q, k) = err_before _ c.put_all_alternatives.result c.map_err-2.result _ c.map_err-2.ensures.cases c.in_err-map_err-2.was in
    let lacks = subst (λ (r : Result (Unit {0}) Full). Filled (OfSome gr says us (length us)) a' c.put_all_alternatives.new.alternatives r) k c.put_all_alternatives.ensures in
    let why : c.from_residual-in_err-map_err-2.result ≡ Err AlternativesShort = search rules in
    let exact : Exactly gr says n (held b) = e.1 in
    let size : room a ≡ length c.args.nodes.now = ap length c.new-node_register.ensures.slots in
    let few = held_few b in
    let same = e.0.size in
    let exact' : Exactly gr says n us = subst (λ vs. Exactly gr says n vs) (sym c.records.ensures) exact in
    overfull (MetNode gr says n) (MetRecord gr says n) c.args.nodes.now _ c.args.alternatives.now _ c.from_residual-in_err-map_err-2.result AlternativesShort why
    (inr (
      refl,
      enough blank_node (MetNode gr says n) (held b) (length c.args.nodes.now) (omega arith) exact.whole,
      subst (λ t. More (MetRecord gr says n) [] t) (ap length c.new-alternative_register.ensures.slots)
          (more_from (OfSome gr says us (length us)) (MetRecord gr says n) (held a') [] (room a')
          (λ z h. elim h [ inl x ↦ inl (subst (λ vs. Has vs z) none x) | inr x ↦ inr (of_met gr wf says n us exact' z x) ]) lacks.short),
    ))

pub returns : goal.returns
returns g c =
    let gr = (g.S.StateSource.meaning c.args.source.now).grammar in
    let wf = (g.met.S.StateSource.lawful c.args.source.now).well_formed in
    let says = g.F.Fits.says c.args.spans.now in
    let n = c.args.last in
    let b = c.put_all_nodes.new.nodes in
    let a = c.new-node_register.result in
    let e = subst (λ (r : Result (Unit {0}) Full). Collected gr says n a b r) (ok_before _ c.put_all_nodes.result c.map_err.result _ c.map_err.ensures.cases c.in_ok-map_err.was) c.put_all_nodes.ensures in
    let exact : Exactly gr says n (held b) = e.1 in
    let a' = c.new-alternative_register.result in
    let b' = c.put_all_alternatives.new.alternatives in
    let none = c.new-alternative_register.ensures.none in
    let us = c.records.result.now in
    let grew = subst (λ (r : Result (Unit {0}) Full). Filled (OfSome gr says us (length us)) a' b' r) (ok_before _ c.put_all_alternatives.result c.map_err-2.result _ c.map_err-2.ensures.cases c.in_ok-map_err-2.was) c.put_all_alternatives.ensures in
    let exact' : Exactly gr says n us = subst (λ vs. Exactly gr says n vs) (sym c.records.ensures) exact in
    record {
      nodes = lists (MetNode gr says n) blank_node c.blank.result b c.fill_rest.new.self _ c.len.result
          (search rules) c.blank.ensures c.fill_rest.ensures.same c.fill_rest.ensures.slots c.len.ensures
          exact.sound exact.whole;
      alternatives = lists (MetRecord gr says n) blank_alternative c.blank-2.result b' c.fill_rest-2.new.self _ c.len-2.result
          (search rules) c.blank-2.ensures c.fill_rest-2.ensures.same c.fill_rest-2.ensures.slots c.len-2.ensures
          (λ z h. elim (grew.only z h) [
            | inl x ↦ absurd (has_none z (subst (λ (vs : List Alternative). Has vs z) none x))
            | inr x ↦ of_met gr wf says n us exact' z x
          ])
          (λ z h. grew.new z (met_of gr wf says n us exact' z h));
    }
