-- Lists of nodes and alternatives that are closed downwards hold all that occurs in the derivations of the words.
use Rattle.std.proofs.Common.{◌≡◌, ℕ, suc, ◌-◌, ◌<◌, ◌≤◌, Bool, true, ◌&&◌, ◌||◌, eqb, leb, List, [], ◌∷◌, length, get_or, replicate, sym, refl, subst, subst₂, arith}
use Rattle.std.proofs.lemmas.List.{get_or_append_left}
use Rattle.std.proofs.lemmas.Bool.{and_parts, or_left, or_right, eq-eqb, leb-true, le-leb}
use Rattle.parsing.specs.Grammar.{Grammar, rule_count, lhs, rhs, goal, start, Sentence, WellFormed}
use Rattle.parsing.specs.Grammar.{Derivation, word, node, Parts, end, part}
use Rattle.parsing.specs.Forest.{cuts, Reached, top, child}
use Rattle.parsing.specs.Forest.{Alternative as IsAlternativeOf}
use Rattle.parsing.proofs.Derivations.{parts_forward}
use Rattle.parsing.proofs.Forest.{forest_nodes, forest_alternatives}
use Rattle.link_growth.specs.Entries.{Mem}
use Rattle.records.specs.Orders.{node_cmp, alternative_cmp}
use Rattle.records.specs.declared.node.Node.{Node}
use Rattle.records.specs.declared.alternative.Alternative.{Alternative}
use Rattle.histories.specs.Forests.{NodeOf, padded, AlternativeOf, Nodes, Alternatives}
use Rattle.known.proofs.Tests.{implies, implied, all_below, at_below, all_of, at_member}
use Rattle.known.proofs.Members.{same_numbers, numbers_same, member?, is_member, mem_has, has_mem, climbs?, is_climbing}
use Rattle.known.proofs.Derivations.{build, places, word?, word_is, reached?, is_reached, reached_alternative?, is_reached_alternative}

abbrev nd : ℕ → ℕ → ℕ → Node
nd X i j = record { symbol = X; from = i; to = j }

abbrev alt : ℕ → List ℕ → Alternative
alt r cs = record { rule = r; cuts = padded cs }

abbrev pub node_code : Node → List ℕ
node_code n = n.symbol ∷ n.from ∷ n.to ∷ []

node_told : (x y : Node) → node_code x ≡ node_code y → x ≡ y
node_told x y e =
    let a : x.symbol ≡ y.symbol = cc in
    let b : x.from ≡ y.from = cc in
    let c : x.to ≡ y.to = cc in
    λ i. record { symbol = a i; from = b i; to = c i }

abbrev pub alternative_code : Alternative → List ℕ
alternative_code a = a.rule ∷ a.cuts

alternative_told : (x y : Alternative) → alternative_code x ≡ alternative_code y → x ≡ y
alternative_told x y e =
    let a : x.rule ≡ y.rule = cc in
    let b : x.cuts ≡ y.cuts = cc in
    λ i. record { rule = a i; cuts = b i }

-- Padding changes no cut that is used.
cut_used : (cs : List ℕ) (p : ℕ) → p < length cs → get_or (padded cs) p 0 ≡ get_or cs p 0
cut_used cs p h = get_or_append_left cs (replicate (8 - length cs) 255) 0 p h

module _ (g : Grammar) (ws : List ℕ) (ns : List Node) (alts : List Alternative) where
  -- What may derive words, up to their end: the goal, a word, a node of the list.
  abbrev fits? : ℕ → ℕ → ℕ → Bool
  fits? X i j = eqb X (goal g) || (word? g ws X i j || member? node_code (nd X i j) ns)

  -- All lists of cuts from i on, between which the symbols Xs fit, pass with their last cut.
  abbrev all_cuts : List ℕ → ℕ → (List ℕ → ℕ → Bool) → Bool
  all_cuts [] i p = p (i ∷ []) i
  all_cuts (X ∷ Xs) i p = all_below (suc (length ws)) (λ k. implies (fits? X i k) (all_cuts Xs k (λ cs. p (i ∷ cs))))

  -- Wherever the right symbols of a rule fit, its left symbol does.
  abbrev rule? : ℕ → ℕ → Bool
  rule? r i = all_cuts (rhs g r) i (λ cs j. fits? (lhs g r) i j)

  abbrev fitting? : Bool
  fitting? = all_below (rule_count g) (λ r. all_below (suc (length ws)) (rule? r))

  module _ (closed : fitting? ≡ true) where
    mutual
      it_fits : {X i j : ℕ} → Derivation g ws X i j → j ≤ length ws → fits? X i j ≡ true
      it_fits (word {X = X} {i = i} t h e) l = or_right _ _ (or_left _ _ (word_is g ws X i t h e))
      it_fits (node {i = i} {j = j} r h e ps) l =
          let f = parts_forward ps in
          subst (λ Y. fits? Y i j ≡ true) e
          (at_cuts (λ cs j. fits? (lhs g r) i j) (at_below (suc (length ws)) (rule? r) (at_below (rule_count g) _ closed r h) i (omega arith)) ps l)

      at_cuts : {Xs : List ℕ} {i j : ℕ} (p : List ℕ → ℕ → Bool) → all_cuts Xs i p ≡ true → (ps : Parts g ws Xs i j) → j ≤ length ws
          → p (cuts ps) j ≡ true
      at_cuts p e end l = e
      at_cuts p e (part {X = X} {Xs = Xs} {i = i} k d ps) l =
          let f = parts_forward ps in
          let behind : ℕ → Bool = λ k. all_cuts Xs k (λ cs. p (i ∷ cs)) in
          at_cuts (λ cs. p (i ∷ cs))
          (implied _ _ (at_below (suc (length ws)) (λ k. implies (fits? X i k) (behind k)) e k (omega arith)) (it_fits d (omega arith)))
          ps l

  -- Below a node of the list all its alternatives are listed, and below an alternative all its nonterminal parts.
  abbrev listed? : Node → ℕ → List ℕ → ℕ → Bool
  listed? x r cs j = implies (eqb j x.to) (member? alternative_code (alt r cs) alts)

  abbrev node? : Node → Bool
  node? x =
      leb x.to (length ws)
      && all_below (rule_count g) (λ r. implies (eqb (lhs g r) x.symbol) (all_cuts (rhs g r) x.from (listed? x r)))

  abbrev parts? : Alternative → Bool
  parts? a =
      all_below (length (rhs g a.rule)) (λ p.
      implies (leb g.terminals (get_or (rhs g a.rule) p 0))
      (member? node_code (nd (get_or (rhs g a.rule) p 0) (get_or a.cuts p 0) (get_or a.cuts (suc p) 0)) ns))

  abbrev downwards? : Bool
  downwards? = fitting? && (member? node_code (nd (start g) 0 (length ws)) ns && (all_of node? ns && all_of parts? alts))

  module _ (e : downwards? ≡ true) where
    record Down : Type 0 where
      fitting : fitting? ≡ true
      top_listed : member? node_code (nd (start g) 0 (length ws)) ns ≡ true
      nodes_pass : all_of node? ns ≡ true
      parts_pass : all_of parts? alts ≡ true

    pass : Down
    pass =
        let (a, x) = and_parts _ _ e in
        let (b, y) = and_parts _ _ x in
        let (c, d) = and_parts _ _ y in
        record { fitting = a; top_listed = b; nodes_pass = c; parts_pass = d }

    alternative_listed : (r : ℕ) (cs : List ℕ) → IsAlternativeOf g ws r cs → Mem (nd (lhs g r) (get_or cs 0 0) (get_or cs (length (rhs g r)) 0)) ns
        → Mem (alt r cs) alts
    alternative_listed r cs a m =
        let x = nd (lhs g r) (get_or cs 0 0) (get_or cs (length (rhs g r)) 0) in
        let (u, v) = and_parts _ _ (at_member node? x ns pass.nodes_pass m) in
        let (ps, q) = build (rhs g r) cs a.count a.derives in
        let all = implied _ _ (at_below (rule_count g) _ v r a.rule_in) (eq-eqb _ _ refl) in
        let found = implied _ _ (at_cuts pass.fitting (listed? x r) all ps (leb-true _ _ u)) (eq-eqb _ _ refl) in
        subst (λ bs. Mem (alt r bs) alts) q (is_member alternative_code alternative_told (alt r (cuts ps)) alts found)

    reached_listed : {X i j : ℕ} → Reached g ws X i j → Mem (nd X i j) ns
    reached_listed top = is_member node_code node_told (nd (start g) 0 (length ws)) ns pass.top_listed
    reached_listed (child r cs p a x l n) =
        let m = alternative_listed r cs a (reached_listed x) in
        let X = get_or (rhs g r) p 0 in
        let t = at_below (length (rhs g r)) _ (at_member parts? (alt r cs) alts pass.parts_pass m) p l in
        let found = is_member node_code node_told (nd X (get_or (padded cs) p 0) (get_or (padded cs) (suc p) 0)) ns
        (implied _ _ t (le-leb _ _ n.low)) in
        subst₂ (λ i j. Mem (nd X i j) ns) (cut_used cs p (omega (arith, a.count))) (cut_used cs (suc p) (omega (arith, a.count))) found

  -- They are reached from the top, and the cuts that an alternative does not use are 255. No derivation of ours has more than three
  -- alternatives nested.
  abbrev reached_node? : Node → Bool
  reached_node? x = reached? g ws alts 3 3 x.symbol x.from x.to

  abbrev padded? : Alternative → Bool
  padded? a = same_numbers a.cuts (padded (places g ws a))

  abbrev upwards? : Bool
  upwards? = all_of reached_node? ns && (all_of (reached_alternative? g ws alts 3 3) alts && all_of padded? alts)

  abbrev ordered? : Bool
  ordered? = climbs? node_cmp ns && climbs? alternative_cmp alts

  abbrev pub forest? : Bool
  forest? = downwards? && (upwards? && ordered?)

  module _ (wf : WellFormed g) (s : Sentence g ws) (e : forest? ≡ true) where
    record Passed : Type 0 where
      downwards : downwards? ≡ true
      nodes_up : all_of reached_node? ns ≡ true
      alternatives_up : all_of (reached_alternative? g ws alts 3 3) alts ≡ true
      all_padded : all_of padded? alts ≡ true
      nodes_climb : climbs? node_cmp ns ≡ true
      alternatives_climb : climbs? alternative_cmp alts ≡ true

    passed : Passed
    passed =
        let (a, x) = and_parts _ _ e in
        let (y, z) = and_parts _ _ x in
        let (b, u) = and_parts _ _ y in
        let (c, d) = and_parts _ _ u in
        let (f, h) = and_parts _ _ z in
        record { downwards = a; nodes_up = b; alternatives_up = c; all_padded = d; nodes_climb = f; alternatives_climb = h }

    node_of : (x : Node) → Mem x ns → NodeOf g ws x
    node_of x m =
        let (d, o) = (forest_nodes wf x.symbol x.from x.to s).0 (is_reached g ws alts 3 3 _ _ _ (at_member reached_node? x ns passed.nodes_up m)) in
        record { derivation = d; occurs = o }

    alternative_of : (a : Alternative) → Mem a alts → AlternativeOf g ws a
    alternative_of a m =
        let up = is_reached_alternative g ws alts 3 3 a (at_member (reached_alternative? g ws alts 3 3) a alts passed.alternatives_up m) in
        let (d, u) = (forest_alternatives wf a.rule (places g ws a) s).0 up in
        record {
          derivation = d;
          places = places g ws a;
          uses = u;
          cuts_are = numbers_same a.cuts (padded (places g ws a)) (at_member padded? a alts passed.all_padded m);
        }

    listed_alternative : (a : Alternative) → AlternativeOf g ws a → Mem a alts
    listed_alternative a u =
        let x = (forest_alternatives wf a.rule u.places s).1 (u.derivation, u.uses) in
        subst (λ cs. Mem (record { rule = a.rule; cuts = cs }) alts) (sym u.cuts_are)
        (alternative_listed passed.downwards a.rule u.places x.0 (reached_listed passed.downwards x.1))

    pub nodes_are : Nodes g ws ns
    nodes_are = record {
      order = is_climbing node_cmp ns passed.nodes_climb;
      each = λ x o. mem_has (reached_listed passed.downwards ((forest_nodes wf x.symbol x.from x.to s).1 (o.derivation, o.occurs)));
      only = λ x h. node_of x (has_mem h);
    }

    pub alternatives_are : Alternatives g ws alts
    alternatives_are = record {
      order = is_climbing alternative_cmp alts passed.alternatives_climb;
      each = λ a u. mem_has (listed_alternative a u);
      only = λ a h. alternative_of a (has_mem h);
    }
