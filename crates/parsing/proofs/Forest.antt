-- What occurs in some derivation of the sentence is what is reached from its top.
use Rattle.std.proofs.Common.{◌≡◌, ℕ, zero, suc, ◌<◌, ◌↔◌, List, [], ◌∷◌, length, get_or, sym, refl, ap, ◌∙◌, ap₂, subst₂, inl, inr, arith}
use mathlib.Core.Path.{subst₃}
use Rattle.parsing.specs.Grammar.{Grammar, rule_count, lhs, rhs, Nonterminal, Sentence, WellFormed}
use Rattle.parsing.specs.Grammar.{Derivation, word, node, Parts, end, part}
use Rattle.parsing.specs.Forest.{cuts, Occurs, OccursIn, Uses, UsesIn}
use Rattle.parsing.specs.Forest.{Alternative, Reached, top, child, ReachedAlternative}

-- The cuts of some parts: one more than the parts, from the first place to the last, with a derivation between each two.
cuts_count : {g : Grammar} {ws Xs : List ℕ} {i j : ℕ} (ps : Parts g ws Xs i j) → length (cuts ps) ≡ suc (length Xs)
cuts_count end = refl
cuts_count (part k d ps) = ap suc (cuts_count ps)

cuts_from : {g : Grammar} {ws Xs : List ℕ} {i j : ℕ} (ps : Parts g ws Xs i j) → get_or (cuts ps) 0 0 ≡ i
cuts_from end = refl
cuts_from (part k d ps) = refl

cuts_to : {g : Grammar} {ws Xs : List ℕ} {i j : ℕ} (ps : Parts g ws Xs i j) → get_or (cuts ps) (length Xs) 0 ≡ j
cuts_to end = refl
cuts_to (part k d ps) = cuts_to ps

cuts_derive : {g : Grammar} {ws Xs : List ℕ} {i j : ℕ} (ps : Parts g ws Xs i j) (p : ℕ) → p < length Xs
    → Derivation g ws (get_or Xs p 0) (get_or (cuts ps) p 0) (get_or (cuts ps) (suc p) 0)
cuts_derive end p h = absurd (omega arith)
cuts_derive (part k d ps) zero h = rw (cuts_from ps) d
cuts_derive (part k d ps) (suc p) h = cuts_derive ps p (omega arith)

-- A derivation in which all occurs that occurs in e.
pub record Holds {g : Grammar} {ws : List ℕ} {X i j : ℕ} (e : Derivation g ws X i j) (Y k l : ℕ) : Type 0 where
  pub tree : Derivation g ws Y k l
  pub nodes : (A b c : ℕ) → Occurs e A b c → Occurs tree A b c
  pub uses : (r : ℕ) (cs : List ℕ) → Uses e r cs → Uses tree r cs

pub record HoldsIn {g : Grammar} {ws : List ℕ} {X i j : ℕ} (e : Derivation g ws X i j) (Ys : List ℕ) (k l : ℕ) : Type 0 where
  pub trees : Parts g ws Ys k l
  pub nodes : (A b c : ℕ) → Occurs e A b c → OccursIn trees A b c
  pub uses : (r : ℕ) (cs : List ℕ) → Uses e r cs → UsesIn trees r cs

module _ {g : Grammar} {ws : List ℕ} {X i j : ℕ} (e : Derivation g ws X i j) where
  mutual
    -- Where the node of e occurs in a derivation, e can be grafted into its place.
    graft : {Y k l : ℕ} (d : Derivation g ws Y k l) → Occurs d X i j → Holds e Y k l
    graft (word t h f) o = absurd o
    graft (node r h f ps) (inl s) =
        subst₃ (Holds e) (sym s.symbol) (sym s.from) (sym s.to) (record { tree = e; nodes = λ A b c o. o; uses = λ q cs u. u })
    graft (node r h f ps) (inr o) =
        let s = graft_in ps o in
        record { tree = node r h f s.trees; nodes = λ A b c x. inr (s.nodes A b c x); uses = λ q cs x. inr (s.uses q cs x) }

    graft_in : {Ys : List ℕ} {k l : ℕ} (ps : Parts g ws Ys k l) → OccursIn ps X i j → HoldsIn e Ys k l
    graft_in end o = absurd o
    graft_in (part m d ps) (inl o) =
        let s = graft d o in
        record { trees = part m s.tree ps; nodes = λ A b c x. inl (s.nodes A b c x); uses = λ q cs x. inl (s.uses q cs x) }
    graft_in (part m d ps) (inr o) =
        let s = graft_in ps o in
        record { trees = part m d s.trees; nodes = λ A b c x. inr (s.nodes A b c x); uses = λ q cs x. inr (s.uses q cs x) }

-- The derivation of a nonterminal begins with its own node.
here : {g : Grammar} {ws : List ℕ} {X i j : ℕ} (d : Derivation g ws X i j) → Nonterminal g X → Occurs d X i j
here (word t h e) n = absurd (omega (arith, n.low))
here (node r h e ps) n = inl (record { symbol = refl; from = refl; to = refl })

-- Parts with the given cuts, in which each nonterminal part occurs.
record Built (g : Grammar) (ws Xs cs : List ℕ) : Type 0 where
  trees : Parts g ws Xs (get_or cs 0 0) (get_or cs (length Xs) 0)
  same_cuts : cuts trees ≡ cs
  occur : (p : ℕ) → p < length Xs → Nonterminal g (get_or Xs p 0) → OccursIn trees (get_or Xs p 0) (get_or cs p 0) (get_or cs (suc p) 0)

-- A derivation between each two cuts makes such parts.
build : {g : Grammar} {ws : List ℕ} (Xs cs : List ℕ) → length cs ≡ suc (length Xs)
    → ((p : ℕ) → p < length Xs → Derivation g ws (get_or Xs p 0) (get_or cs p 0) (get_or cs (suc p) 0)) → Built g ws Xs cs
build [] [] h f = absurd (omega arith)
build [] (c ∷ []) h f = record { trees = end; same_cuts = refl; occur = λ p l n. absurd (omega arith) }
build [] (c ∷ (b ∷ bs)) h f = absurd (omega arith)
build (X ∷ Xs) [] h f = absurd (omega arith)
build (X ∷ Xs) (c ∷ []) h f = absurd (omega arith)
build (X ∷ Xs) (c ∷ (b ∷ bs)) h f =
    let first = f 0 (omega arith) in
    let rest = build Xs (b ∷ bs) (omega arith) (λ p l. f (suc p) (omega arith)) in
    record {
      trees = part b first rest.trees;
      same_cuts = ap (λ xs. c ∷ xs) rest.same_cuts;
      occur = elim [ zero ↦ λ l n. inl (here first n) | suc p ↦ λ l n. inr (rest.occur p (omega arith) n) ];
    }

-- The derivation of an alternative's node that uses it, with its nonterminal parts.
record Fragment (g : Grammar) (ws : List ℕ) (r : ℕ) (cs : List ℕ) : Type 0 where
  tree : Derivation g ws (lhs g r) (get_or cs 0 0) (get_or cs (length (rhs g r)) 0)
  used : Uses tree r cs
  occur : (p : ℕ) → p < length (rhs g r) → Nonterminal g (get_or (rhs g r) p 0)
      → Occurs tree (get_or (rhs g r) p 0) (get_or cs p 0) (get_or cs (suc p) 0)

fragment : {g : Grammar} {ws : List ℕ} {r : ℕ} {cs : List ℕ} → Alternative g ws r cs → Fragment g ws r cs
fragment {g} {ws} {r} {cs} a =
    let b = build (rhs g r) cs a.count a.derives in
    record {
      tree = node r a.rule_in refl b.trees;
      used = inl (record { rule = refl; places = b.same_cuts });
      occur = λ p l n. inr (b.occur p l n);
    }

module _ {g : Grammar} (wf : WellFormed g) {ws : List ℕ} where
  -- What is reached occurs: graft the alternatives on the way down into a derivation.
  reached_occurs : {X i j : ℕ} → Sentence g ws → Reached g ws X i j → (d : Sentence g ws) × Occurs d X i j
  reached_occurs s top = (s, here s wf.start_in)
  reached_occurs s (child r cs p a x l n) =
      let (d, o) = reached_occurs s x in
      let f = fragment a in
      let t = graft f.tree d o in
      (t.tree, t.nodes _ _ _ (f.occur p l n))

  reached_uses : {r : ℕ} {cs : List ℕ} → Sentence g ws → ReachedAlternative g ws r cs → (d : Sentence g ws) × Uses d r cs
  reached_uses {r} {cs} s x =
      let (d, o) = reached_occurs s x.1 in
      let f = fragment x.0 in
      let t = graft f.tree d o in
      (t.tree, t.uses r cs f.used)

  -- Only nonterminals have nodes.
  occurs_nonterminal : (X i j : ℕ) {Y k l : ℕ} (d : Derivation g ws Y k l) → Occurs d X i j → Nonterminal g Y
  occurs_nonterminal X i j (word t h e) o = absurd o
  occurs_nonterminal X i j (node r h e ps) o = rw e at (wf.left_in r h)

  -- The rule of a node with the cuts of its parts is an alternative.
  node_alternative : {r i j : ℕ} → r < rule_count g → (ps : Parts g ws (rhs g r) i j) → Alternative g ws r (cuts ps)
  node_alternative h ps = record { rule_in = h; count = cuts_count ps; derives = cuts_derive ps }

  mutual
    -- What occurs below a node that is reached is reached.
    occurs_reached : {X i j Y k l : ℕ} (d : Derivation g ws Y k l) → Reached g ws Y k l → Occurs d X i j → Reached g ws X i j
    occurs_reached (word t h e) x o = absurd o
    occurs_reached (node r h e ps) x (inl s) = subst₃ (Reached g ws) s.symbol s.from s.to x
    occurs_reached (node r h e ps) x (inr o) =
        let y : Reached g ws (lhs g r) (get_or (cuts ps) 0 0) (get_or (cuts ps) (length (rhs g r)) 0) = rw (e, cuts_from ps, cuts_to ps) x in
        occurs_in_reached ps (λ p l n. child r (cuts ps) p (node_alternative h ps) y l n) o

    occurs_in_reached : {X i j : ℕ} {Ys : List ℕ} {k l : ℕ} (ps : Parts g ws Ys k l)
        → ((p : ℕ) → p < length Ys → Nonterminal g (get_or Ys p 0) → Reached g ws (get_or Ys p 0) (get_or (cuts ps) p 0) (get_or (cuts ps) (suc p) 0))
        → OccursIn ps X i j → Reached g ws X i j
    occurs_in_reached end f o = absurd o
    occurs_in_reached {X} {i} {j} (part m d ps) f (inl o) =
        occurs_reached d (rw (cuts_from ps) at (f 0 (omega arith) (occurs_nonterminal X i j d o))) o
    occurs_in_reached (part m d ps) f (inr o) = occurs_in_reached ps (λ p l. f (suc p) (omega arith)) o

  mutual
    -- An alternative that is used is one, and its node occurs.
    uses_occurs : {r : ℕ} {cs : List ℕ} {Y k l : ℕ} (d : Derivation g ws Y k l) → Uses d r cs
        → Alternative g ws r cs × Occurs d (lhs g r) (get_or cs 0 0) (get_or cs (length (rhs g r)) 0)
    uses_occurs (word t h e) u = absurd u
    uses_occurs (node q h e ps) (inl s) = (
      subst₂ (Alternative g ws) s.rule s.places (node_alternative h ps),
      inl (record {
        symbol = sym e ∙ ap (lhs g) s.rule;
        from = sym (cuts_from ps) ∙ ap (λ bs. get_or bs 0 0) s.places;
        to = sym (cuts_to ps) ∙ ap₂ (λ bs p. get_or bs (length (rhs g p)) 0) s.places s.rule;
      }),
    )
    uses_occurs (node q h e ps) (inr u) = let x = uses_in_occurs ps u in (x.0, inr x.1)

    uses_in_occurs : {r : ℕ} {cs : List ℕ} {Ys : List ℕ} {k l : ℕ} (ps : Parts g ws Ys k l) → UsesIn ps r cs
        → Alternative g ws r cs × OccursIn ps (lhs g r) (get_or cs 0 0) (get_or cs (length (rhs g r)) 0)
    uses_in_occurs end u = absurd u
    uses_in_occurs (part m d ps) (inl u) = let x = uses_occurs d u in (x.0, inl x.1)
    uses_in_occurs (part m d ps) (inr u) = let x = uses_in_occurs ps u in (x.0, inr x.1)

  -- The nodes of the derivations of a sentence are those that are reached.
  pub forest_nodes : (X i j : ℕ) → Sentence g ws → Reached g ws X i j ↔ ((d : Sentence g ws) × Occurs d X i j)
  forest_nodes X i j s = (reached_occurs s, λ x. occurs_reached x.0 top x.1)

  -- And so are their alternatives.
  pub forest_alternatives : (r : ℕ) (cs : List ℕ) → Sentence g ws → ReachedAlternative g ws r cs ↔ ((d : Sentence g ws) × Uses d r cs)
  forest_alternatives r cs s =
      (reached_uses s, λ x. let (a, o) = uses_occurs x.0 x.1 in (a, occurs_reached x.0 top o))
