-- From what is gathered off the links to what a gather of the kept words promises.
use Rattle.std.proofs.Common.{◌≡◌, ℕ, zero, suc, ◌<◌, ◌≤◌, ◌-◌, List, [], ◌∷◌, ◌++◌, length, take, replicate, Ok, Err, Some, None, Ordering, sym, refl, ap, ◌∙◌, subst, ⊎_elim, inl, inr, arith}
use Rattle.std.proofs.lemmas.Bool.{cases_lt}
use Rattle.std.proofs.lemmas.List.{length-take-le, take-append-drop}
use Rattle.std.specs.Cmp.{IsTotalOrder}
use Rattle.parsing.specs.Grammar.{Grammar, Sentence}
use Rattle.parsing.specs.Items.{Source}
use Rattle.parsing.specs.Links.{Linked}
use Rattle.link_growth.specs.declared.Link.{Link}
use Rattle.link_growth.specs.Entries.{Mem, head, tail}
use Rattle.link_growth.specs.Counting.{Exact}
use Rattle.register.specs.Lists.{Has}
use Rattle.register.proofs.Growing.{has_none}
use Rattle.records.specs.declared.node.Node.{Node}
use Rattle.records.specs.declared.alternative.Alternative.{Alternative}
use Rattle.records.specs.Blanks.{blank_node, blank_alternative}
use Rattle.records.specs.Orders.{by_node, by_alternative}
use Rattle.grammar.specs.declared.refusal.Refusal.{Refusal}
use Rattle.states.specs.Sources.{Sourced}
use Rattle.forest.specs.Forests
use Rattle.forest.specs.Forests.{GathersForest, IsNode, IsAlternative, Short}
use Rattle.forest.specs.declared.gathering.Counts.{Counts}
use Rattle.forest.specs.declared.fault.GatherFault.{GatherFault}
use Rattle.forest.specs.Refusals.{refusal}
use Rattle.histories.specs.Calls.{opened, gather, Reply, refused, counted, and_lists}
use Rattle.histories.specs.Doings.{Accepts, Does, gather_closed, gather_none, gather_nodes, gather_alternatives, gather_done}
use Rattle.histories.specs.Forests.{NodeOf, AlternativeOf, Lists, filled}
use Rattle.histories.specs.Sizes.{AtMost, MoreThan}
use Rattle.histories.specs.Refusals.{of_reading}
use Rattle.histories.proofs.Sentences.{accepts_sentence}
use Rattle.reader.specs.Holding.{holding}
use Rattle.reader.specs.Readings.{Reading, Makes}

-- The links of a table as the gathering is told of them.
mem_has : {A : Type 0} {y : A} {xs : List A} → Mem y xs → Has xs y
mem_has head = (0, omega arith, λ d. refl)
mem_has (tail m) = let (k, l, e) = mem_has m in (suc k, omega arith, e)

has_mem : {A : Type 0} (y : A) (xs : List A) → Has xs y → Mem y xs
has_mem y [] h = absurd (has_none y h)
has_mem y (x ∷ xs) (zero, l, e) = subst (λ z. Mem z (x ∷ xs)) (e x) head
has_mem y (x ∷ xs) (suc k, l, e) = tail (has_mem y xs (k, omega arith, e))

pub all_held : {src : Source} {ws : List ℕ} {xs : List Link} → Exact src ws xs → Forests.Holds xs (Linked src ws)
all_held {src} {ws} {xs} x s j b i = ((λ h. x.sound s j b i (has_mem _ xs h)), (λ l. mem_has (x.whole s j b i l)))

-- Nodes and alternatives as the law speaks of them.
node_of : {g : Grammar} {ws : List ℕ} (z : Node) → IsNode g ws z → NodeOf g ws z
node_of z x = record { derivation = x.derivation; occurs = x.occurs }

of_node : {g : Grammar} {ws : List ℕ} (z : Node) → NodeOf g ws z → IsNode g ws z
of_node z x = record { derivation = x.derivation; occurs = x.occurs }

alternative_of : {g : Grammar} {ws : List ℕ} (z : Alternative) → IsAlternative g ws z → AlternativeOf g ws z
alternative_of z x = record {
  derivation = x.derivation;
  places = x.cuts;
  uses = rw (ap (λ y. y.rule) x.here) x.uses;
  cuts_are = ap (λ y. y.cuts) x.here;
}

of_alternative : {g : Grammar} {ws : List ℕ} (z : Alternative) → AlternativeOf g ws z → IsAlternative g ws z
of_alternative z x = record {
  rule = z.rule;
  cuts = x.places;
  derivation = x.derivation;
  uses = x.uses;
  here = λ i. record { rule = z.rule; cuts = x.cuts_are i };
}

-- A list by which the records with a property are too many, or not.
module _ {X : Type 0} {P Q : X → Type 0} (f : (z : X) → P z → Q z) (h : (z : X) → Q z → P z) (xs : List X) where
  short_more : Short P xs → MoreThan Q (length xs)
  short_more s = record {
    some = s.some;
    apart = s.apart;
    each = λ z k. elim (s.each z k) [ inl x ↦ absurd (has_none z x) | inr x ↦ f z x ];
    many = s.many;
  }

  not_short : (Short P xs → ⊥) → AtMost Q (length xs)
  not_short no_more ys a e =
      ⊎_elim (λ (l : length xs < length ys). absurd (no_more (record { some = ys; apart = a; each = λ z k. inr (h z (e z k)); many = l })))
      (λ (l : length ys ≤ length xs). l) (cases_lt (length xs) (length ys))

-- The front of the slots lists the records, and the blanks fill the rest.
module _ {X : Type 0} {R : X → X → Ordering} (o : IsTotalOrder R) {P Q : X → Type 0} (f : (z : X) → P z → Q z) (h : (z : X) → Q z → P z)
    (blank : X) (xs vs : List X) (n : ℕ) (l : Forests.Lists R P blank vs n) where
  lists_front : Lists R Q (take n vs)
  lists_front = record { order = l.order; each = λ z q. l.whole z (h z q); only = λ z k. f z (l.sound z k) }

  front_long : length (take n vs) ≡ n
  front_long = length-take-le n vs l.room

  front_filled : length vs ≡ length xs → filled (take n vs) (length xs) blank ≡ vs
  front_filled e =
      ap (λ k. take n vs ++ replicate (length xs - k) blank) front_long ∙ ap (λ k. take n vs ++ replicate (k - n) blank) (sym e)
      ∙ ap (λ ds. take n vs ++ ds) (sym l.rest) ∙ take-append-drop n vs

-- What a gather that is refused, and one that is not, does.
module _ {S : Type 0} (m : S → Source) (r : Reading S) (n : ℕ) (is_open : r.limit ≡ Some n) (law : Sourced (m r.source)) (ns vs : List Node) (bs us : List Alternative)
    (nodes_long : length vs ≡ length ns) (alternatives_long : length us ≡ length bs) where
  accepted : Sentence (m r.source).grammar r.words → Accepts (m r.source) r.words
  accepted s = (accepts_sentence law).1 s

  makes : (a : Reply) → Does (m r.source) (opened n r.words) (gather ns bs) (and_lists a vs us) (opened n r.words)
      → Makes m r (gather ns bs) (and_lists a vs us) r
  makes a d = record {
    over = refl;
    does = subst (λ o. Does (m r.source) (holding o r.words) (gather ns bs) (and_lists a vs us) (holding o r.words)) (sym is_open) d;
  }

  -- The lists are as they are told to be.
  lists_are : (a : Reply) (xs : List Node) (ys : List Alternative) → xs ≡ vs → ys ≡ us
      → Does (m r.source) (opened n r.words) (gather ns bs) (and_lists a xs ys) (opened n r.words) → Makes m r (gather ns bs) (and_lists a vs us) r
  lists_are a xs ys e f d = makes a (rw (sym e, sym f) d)

  -- The fault is shown as that refusal.
  refused_as : (f : GatherFault) {e : Refusal} → refusal f ≡ e → Makes m r (gather ns bs) (and_lists (refused e) vs us) r
      → Makes m r (gather ns bs) (and_lists (refused (refusal f)) vs us) r
  refused_as f q h = subst (λ t. Makes m r (gather ns bs) (and_lists (refused t) vs us) r) (sym q) h

  pub gather_refused : (f : GatherFault) → GathersForest (m r.source).grammar r.words ns bs vs us (Err f)
      → Makes m r (gather ns bs) (and_lists (refused (refusal f)) vs us) r
  gather_refused f (inl x) = refused_as f x.number (lists_are _ ns bs (sym x.nodes) (sym x.alternatives) (gather_none (λ a. x.none ((accepts_sentence law).0 a))))
  gather_refused f (inr x) = elim x.short [
    | inl (e, short) ↦ refused_as f e (lists_are _ _ _ (sym x.nodes) (sym x.alternatives) (gather_nodes (accepted x.some) (short_more node_of of_node ns short)))
    | inr (e, room, short) ↦ refused_as f e
        (lists_are _ _ _ (sym x.nodes) (sym x.alternatives)
        (gather_alternatives (accepted x.some) (not_short node_of of_node ns room) (short_more alternative_of of_alternative bs short)))
  ]

  pub gather_made : (c : Counts) → GathersForest (m r.source).grammar r.words ns bs vs us (Ok c)
      → Makes m r (gather ns bs) (and_lists (counted c.nodes c.alternatives) vs us) r
  gather_made c (s, g) =
      let xs = take c.nodes vs in
      let ys = take c.alternatives us in
      let p = front_long by_node node_of of_node blank_node ns vs c.nodes g.nodes in
      let q = front_long by_alternative alternative_of of_alternative blank_alternative bs us c.alternatives g.alternatives in
      let v = front_filled by_node node_of of_node blank_node ns vs c.nodes g.nodes nodes_long in
      let u = front_filled by_alternative alternative_of of_alternative blank_alternative bs us c.alternatives g.alternatives alternatives_long in
      let d = gather_done {n = n} {ns = ns} {bs = bs} (accepted s) (lists_front by_node node_of of_node blank_node ns vs c.nodes g.nodes) (omega (arith, p, g.nodes.room, nodes_long))
      (lists_front by_alternative alternative_of of_alternative blank_alternative bs us c.alternatives g.alternatives) (omega (arith, q, g.alternatives.room, alternatives_long)) in
      makes _ (rw (v, u, p, q) at d)

module _ {S : Type 0} (m : S → Source) where
  pub gather_out : (r : Reading S) (ns : List Node) (bs : List Alternative) → r.limit ≡ None → Makes m r (gather ns bs) (and_lists (refused (of_reading 40 0 0)) ns bs) r
  gather_out r ns bs e = record {
    over = refl;
    does = subst (λ o. Does (m r.source) (holding o r.words) (gather ns bs) (and_lists (refused (of_reading 40 0 0)) ns bs) (holding o r.words)) (sym e) gather_closed;
  }
