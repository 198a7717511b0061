-- What is written, told by derivations.
use Rattle.std.proofs.Common.{◌≡◌, ℕ, ◌-◌, ◌≤◌, Bool, ◌↔◌, List, [], ◌++◌, length, take, drop, replicate, Ok, Err, Result, ap, ◌∙◌, subst, inl, inr, arith, sym}
use Rattle.std.specs.declared.cmp.Ord
use Rattle.std.specs.declared.cmp.PartialEq
use Rattle.std.specs.declared.cmp.PartialOrd
use Rattle.std.specs.declared.cmp.Ordering.{Ordering}
use Rattle.std.proofs.lemmas.List.{take_at, drop_at, length-take-le}
use Rattle.parsing.specs.Grammar.{Grammar, WellFormed, Sentence}
use Rattle.parsing.specs.Items.{Source, Lawful}
use Rattle.parsing.specs.Links.{Linked}
use Rattle.parsing.proofs.Theorems.{soundness}
use Rattle.spans.specs.Spans.{Answers, Tells}
use Rattle.spans.proofs.Uniqueness.{fit_is_one, met_is_one}
use Rattle.spans.proofs.Reaching.{met_forest, spans_tell, spans_judge}
use Rattle.register.specs.declared.register.Register.{Register}
use Rattle.register.specs.Lists.{Has, Climbs, More}
use Rattle.register.specs.Registers.{held, room, SameSlots}
use Rattle.register.proofs.Growing.{more_from}
use Rattle.grammar.specs.declared.refusal.Refusal.{Refusal}
use Rattle.records.specs.declared.node.Node.{Node}
use Rattle.records.specs.declared.alternative.Alternative.{Alternative}
use Rattle.link_growth.specs.declared.Link.{Link}
use Rattle.forest.specs.Sweeps.{MetNode}
use Rattle.forest.specs.declared.gathering.Counts.{Counts}
use Rattle.forest.specs.declared.fault.GatherFault.{GatherFault}
use Rattle.forest.specs.Forests.{Among, Holds, IsNode, IsAlternative, MetRecord, Lists, Overfull, Written, Fills}
use Rattle.forest.specs.Statements.{GatheredOccurs, FitIsOne}

-- What a register leaves in its slots when the rest is filled.
pub lists : {X : Type 0} {O : Ord.Ghosts X} {E : PartialEq.Ghosts X} {L : PartialOrd.Ghosts X} (P : X → Type 0) (blank x : X) (a b : Register X O E L)
    (xs : List X) (n : ℕ) → xs ≡ b.slots.now → x ≡ blank → SameSlots a b → b.slots.now ≡ held a ++ replicate (room a - length (held a)) x
    → n ≡ length (held a) → ((z : X) → Has (held a) z → P z) → ((z : X) → P z → Has (held a) z) → Lists O.cmp P blank xs n
lists {X} {O} P blank x a b xs n e f s q k sound whole =
    let m = room a - length (held a) in
    let all : xs ≡ held a ++ replicate m blank = e ∙ q ∙ ap (λ y. held a ++ replicate m y) f in
    let t : take n xs ≡ held a = ap (take n) all ∙ take_at (held a) (replicate m blank) n (sym k) in
    let size : length xs ≡ room a = ap length e ∙ s.size in
    let few : length (held a) ≤ room a = (let w = a.within in let l = length-take-le a.count a.slots.now w in omega arith) in
    record {
      room = omega arith;
      order = subst (λ (vs : List X). Climbs O.cmp vs) (sym t) a.in_order;
      sound = λ z h. sound z (subst (λ (vs : List X). Has vs z) t h);
      whole = λ z h. subst (λ (vs : List X). Has vs z) (sym t) (whole z h);
      rest = ap (drop n) all ∙ drop_at (held a) (replicate m blank) n (sym k) ∙ ap (λ l. replicate l blank) (omega arith);
    }

lists_as : {X : Type 0} (R : X → X → Ordering) (P Q : X → Type 0) (blank : X) (xs : List X) (n : ℕ)
    → ((z : X) → P z ↔ Q z) → Lists R P blank xs n → Lists R Q blank xs n
lists_as R P Q blank xs n f l = record {
  room = l.room;
  order = l.order;
  sound = λ z h. (f z).0 (l.sound z h);
  whole = λ z h. l.whole z ((f z).1 h);
  rest = l.rest;
}

pub short_as : {X : Type 0} (P Q : X → Type 0) (n : ℕ) → ((z : X) → P z → Q z) → More P [] n → More Q [] n
short_as P Q n f m = more_from P Q [] [] n (λ z h. elim h [ inl x ↦ inl x | inr x ↦ inr (f z x) ]) m

module _ (P P' : Node → Type 0) (Q Q' : Alternative → Type 0) (xs : List Node) (ys : List Alternative) where
  written_as : (vs : List Node) (zs : List Alternative) (c : Counts) → ((z : Node) → P z ↔ P' z) → ((z : Alternative) → Q z ↔ Q' z)
      → Written P Q xs ys vs zs c → Written P' Q' xs ys vs zs c
  written_as vs zs c p q w = record {
    nodes = lists_as _ P P' _ vs c.nodes p w.nodes;
    alternatives = lists_as _ Q Q' _ zs c.alternatives q w.alternatives;
  }

  overfull_as : (e : Refusal) → ((z : Node) → P z ↔ P' z) → ((z : Alternative) → Q z ↔ Q' z) → Overfull P Q xs ys e → Overfull P' Q' xs ys e
  overfull_as e p q (inl (n, s)) = inl (n, short_as P P' (length xs) (λ z. (p z).0) s)
  overfull_as e p q (inr (n, room, s)) =
      inr (n, (λ m. room (short_as P' P (length xs) (λ z. (p z).1) m)), short_as Q Q' (length ys) (λ z. (q z).0) s)

  -- The same, told by other properties.
  fills_as : (S S' : Type 0) → S ↔ S' → (S → ((z : Node) → P z ↔ P' z) × ((z : Alternative) → Q z ↔ Q' z))
      → (vs : List Node) (zs : List Alternative) (r : Result Counts GatherFault) → Fills S P Q xs ys vs zs r → Fills S' P' Q' xs ys vs zs r
  fills_as S S' s f vs zs (Ok c) (h, w) = (s.0 h, written_as vs zs c (f h).0 (f h).1 w)
  fills_as S S' s f vs zs (Err e) (inl x) = inl (record {
    number = x.number;
    none = λ h. x.none (s.1 h);
    nodes = x.nodes;
    alternatives = x.alternatives;
  })
  fills_as S S' s f vs zs (Err e) (inr x) = inr (record {
    some = s.0 x.some;
    short = overfull_as _ (f x.some).0 (f x.some).1 x.short;
    nodes = x.nodes;
    alternatives = x.alternatives;
  })

module _ (g : Grammar) (wf : WellFormed g) (ws : List ℕ) (s : Sentence g ws) (fits : ℕ → ℕ → ℕ → Bool) (tells : Tells g ws fits) where
  node_is : (z : Node) → MetNode g fits (length ws) z ↔ IsNode g ws z
  node_is z =
      let f = (met_forest g wf ws s fits tells).0 z.symbol z.from z.to in (
        (λ m. let (d, o) = f.0 m in record { derivation = d; occurs = o }),
        λ x. f.1 (x.derivation, x.occurs),
      )

  alternative_is : (z : Alternative) → MetRecord g fits (length ws) z ↔ IsAlternative g ws z
  alternative_is z = (
    (λ m. let (d, u) = ((met_forest g wf ws s fits tells).1 m.rule m.cuts).0 m.met in
        record { rule = m.rule; cuts = m.cuts; derivation = d; uses = u; here = m.here }),
    λ x. record { rule = x.rule; cuts = x.cuts; met = ((met_forest g wf ws s fits tells).1 x.rule x.cuts).1 (x.derivation, x.uses); here = x.here },
  )

-- What fits by a list of exactly the links of the words fits by the links.
over_links : (src : Source) → Lawful src → (ws : List ℕ) (ks : List Link) → Holds ks (Linked src ws) → (fits : ℕ → ℕ → ℕ → Bool)
    → Answers src (Among ks) ws fits → Answers src (Linked src ws) ws fits
over_links src law ws ks holds fits ans = record {
  words = ans.words;
  spans = λ X i j nt. (
    (λ h. let (s, b, (has, forward), e) = (ans.spans X i j nt).0 h in (s, b, (holds s j b i).0 has, e)),
    λ x.
        let (s, b, linked, e) = x in
        let (Y, en, d, forward, end) = soundness src law ws s j b i linked in
        (ans.spans X i j nt).1 (s, b, ((holds s j b i).1 linked, forward), e),
  );
}

pub gathered_occurs : GatheredOccurs
gathered_occurs src wf law ws ks holds xs vs ys zs r h =
    let fits = h.fits in
    let ans = over_links src law ws ks holds fits h.told in
    let j = spans_judge src wf law ws fits ans in
    fills_as (MetNode src.grammar fits (length ws)) (IsNode src.grammar ws) (MetRecord src.grammar fits (length ws)) (IsAlternative src.grammar ws) xs ys
    _ (Sentence src.grammar ws) j
    (λ t.
    let s = j.0 t in
    let tells = spans_tell src wf law ws s fits ans in
    (node_is src.grammar wf ws s fits tells, alternative_is src.grammar wf ws s fits tells))
    vs zs r h.filled

pub fits_are_one : FitIsOne
fits_are_one src wf ws ks f h p q =
    let same = fit_is_one src (Among ks) ws f h p q in (
      same,
      (λ n. (met_is_one src.grammar wf f h same n).0),
      λ n. (met_is_one src.grammar wf f h same n).1,
    )
