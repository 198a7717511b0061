-- Derivations are found among given alternatives, and so are the nodes and alternatives that are reached from the top.
use Rattle.std.proofs.Common.{◌≡◌, ℕ, zero, suc, ◌+◌, ◌<◌, Bool, true, ◌&&◌, ◌||◌, eqb, ltb, leb, List, [], ◌∷◌, length, get_or, take, sym, refl, subst, inl, inr, arith}
use mathlib.Core.Path.{subst₃}
use Rattle.std.proofs.lemmas.Bool.{and_parts, and_from, or_cases, eqb-true, eq-eqb, ltb-true, lt-ltb, leb-true}
use Rattle.parsing.specs.Grammar.{Grammar, rule_count, lhs, rhs, start, Nonterminal}
use Rattle.parsing.specs.Grammar.{Derivation, word, node, Parts, end, part}
use Rattle.parsing.specs.Forest.{cuts, Reached, top, child, ReachedAlternative}
use Rattle.parsing.specs.Forest.{Alternative as IsAlternative}
use Rattle.records.specs.declared.alternative.Alternative.{Alternative}
use Rattle.known.proofs.Tests.{all_below, at_below, some_below, found_below, some_of, found_member}

-- Derivations between the cuts are parts with these cuts.
pub build : {g : Grammar} {ws : List ℕ} (Xs cs : List ℕ) → length cs ≡ suc (length Xs)
    → ((p : ℕ) → p < length Xs → Derivation g ws (get_or Xs p 0) (get_or cs p 0) (get_or cs (suc p) 0))
    → (ps : Parts g ws Xs (get_or cs 0 0) (get_or cs (length Xs) 0)) × (cuts ps ≡ cs)
build [] [] h f = absurd (omega arith)
build [] (c ∷ []) h f = (end, refl)
build [] (c ∷ (b ∷ bs)) h f = absurd (omega arith)
build (X ∷ Xs) [] h f = absurd (omega arith)
build (X ∷ Xs) (c ∷ []) h f = absurd (omega arith)
build (X ∷ Xs) (c ∷ (b ∷ bs)) h f =
    let (ps, e) = build Xs (b ∷ bs) (omega arith) (λ p l. f (suc p) (omega arith)) in
    (part b (f 0 (omega arith)) ps, λ i. c ∷ e i)

three : (a b c d e f : ℕ) → (eqb a b && (eqb c d && eqb e f)) ≡ true → (a ≡ b) × (c ≡ d) × (e ≡ f)
three _ _ _ _ _ _ x =
    let (p, y) = and_parts _ _ x in
    let (q, r) = and_parts _ _ y in
    (eqb-true _ _ p, eqb-true _ _ q, eqb-true _ _ r)

module _ (g : Grammar) (ws : List ℕ) where
  -- The word at i is the terminal X.
  abbrev pub word? : ℕ → ℕ → ℕ → Bool
  word? X i j = (ltb X g.terminals && ltb i (length ws)) && (eqb (get_or ws i 0) X && eqb j (suc i))

  is_word : (X i j : ℕ) → word? X i j ≡ true → Derivation g ws X i j
  is_word X i j e =
      let (x, y) = and_parts _ _ e in
      let (t, h) = and_parts _ _ x in
      let (w, s) = and_parts _ _ y in
      subst (Derivation g ws X i) (sym (eqb-true _ _ s))
      (word (ltb-true _ _ t) (ltb-true _ _ h) (eqb-true _ _ w))

  pub word_is : (X i : ℕ) → X < g.terminals → i < length ws → get_or ws i 0 ≡ X → word? X i (suc i) ≡ true
  word_is X i t h e =
      and_from _ _
      (and_from _ _ (lt-ltb _ _ t) (lt-ltb _ _ h))
      (and_from _ _ (eq-eqb _ _ e) (eq-eqb _ _ refl))

  -- A test that only what derives passes.
  abbrev Derives : (ℕ → ℕ → ℕ → Bool) → Type 0
  Derives dv = (X i j : ℕ) → dv X i j ≡ true → Derivation g ws X i j

  -- The left symbol of an alternative, the number of its parts, their symbols, and the cuts that it uses.
  abbrev left : Alternative → ℕ
  left a = lhs g a.rule

  abbrev parts : Alternative → ℕ
  parts a = length (rhs g a.rule)

  abbrev symbol : Alternative → ℕ → ℕ
  symbol a p = get_or (rhs g a.rule) p 0

  abbrev pub places : Alternative → List ℕ
  places a = take (suc (parts a)) a.cuts

  abbrev cut : Alternative → ℕ → ℕ
  cut a p = get_or (places a) p 0

  -- The parts of an alternative pass such a test.
  abbrev alternative? : (ℕ → ℕ → ℕ → Bool) → Alternative → Bool
  alternative? dv a =
      (ltb a.rule (rule_count g) && eqb (length (places a)) (suc (parts a)))
      && all_below (parts a) (λ p. dv (symbol a p) (cut a p) (cut a (suc p)))

  is_alternative : (dv : ℕ → ℕ → ℕ → Bool) → Derives dv → (a : Alternative) → alternative? dv a ≡ true → IsAlternative g ws a.rule (places a)
  is_alternative dv f a e =
      let (x, y) = and_parts _ _ e in
      let (h, l) = and_parts _ _ x in
      record {
        rule_in = ltb-true _ _ h;
        count = eqb-true _ _ l;
        derives = λ p k. f _ _ _ (at_below (parts a) _ y p k);
      }

  -- The alternative a is one of the node (X, i, j).
  abbrev makes? : Alternative → ℕ → ℕ → ℕ → Bool
  makes? a X i j = eqb (left a) X && (eqb (cut a 0) i && eqb (cut a (parts a)) j)

  module _ (alts : List Alternative) where
    -- X derives the words from i to j by alternatives of the list, with at most n of them nested.
    abbrev pub derives? : ℕ → ℕ → ℕ → ℕ → Bool
    derives? zero X i j = word? X i j
    derives? (suc n) X i j = word? X i j || some_of (λ a. makes? a X i j && alternative? (derives? n) a) alts

    pub it_derives : (n : ℕ) → Derives (derives? n)
    it_derives zero X i j e = is_word X i j e
    it_derives (suc n) X i j e =
        elim (or_cases _ _ e) [
          | inl x ↦ is_word X i j x
          | inr x ↦
              let (a, _, y) = found_member (λ a. makes? a X i j && alternative? (derives? n) a) alts x in
              let (m, z) = and_parts _ _ y in
              let (p, q, r) = three _ _ _ _ _ _ m in
              let al = is_alternative (derives? n) (it_derives n) a z in
              subst₃ (Derivation g ws) p q r (node a.rule al.rule_in refl (build (rhs g a.rule) (places a) al.count al.derives).0)
        ]

    -- What is reached from the top through alternatives of the list, whose parts derive by at most `nested` of them.
    module _ (nested : ℕ) where
      abbrev part? : Alternative → ℕ → ℕ → ℕ → ℕ → Bool
      part? a X i j p = eqb (symbol a p) X && (eqb (cut a p) i && eqb (cut a (suc p)) j)

      abbrev top? : ℕ → ℕ → ℕ → Bool
      top? X i j = eqb (start g) X && (eqb 0 i && eqb (length ws) j)

      is_top : (X i j : ℕ) → top? X i j ≡ true → Reached g ws X i j
      is_top X i j e = let (p, q, r) = three _ _ _ _ _ _ e in subst₃ (Reached g ws) p q r top

      -- The node (X, i, j) is reached, n alternatives below the top at most.
      abbrev pub reached? : ℕ → ℕ → ℕ → ℕ → Bool
      reached? zero X i j = top? X i j
      reached? (suc n) X i j =
          top? X i j
          || ((leb g.terminals X && ltb X (g.terminals + g.nonterminals))
          && some_of (λ a.
          some_below (parts a) (part? a X i j)
          && (alternative? (derives? nested) a && reached? n (left a) (cut a 0) (cut a (parts a)))) alts)

      pub is_reached : (n X i j : ℕ) → reached? n X i j ≡ true → Reached g ws X i j
      is_reached zero X i j e = is_top X i j e
      is_reached (suc n) X i j e =
          elim (or_cases _ _ e) [
            | inl x ↦ is_top X i j x
            | inr x ↦
                let (t, y) = and_parts _ _ x in
                let (u, v) = and_parts _ _ t in
                let (a, _, z) = found_member _ alts y in
                let (b, c) = and_parts _ _ z in
                let (p, l, d) = found_below (parts a) (part? a X i j) b in
                let (q, r, s) = three _ _ _ _ _ _ d in
                let (f, k) = and_parts _ _ c in
                let non : Nonterminal g (symbol a p) = subst (Nonterminal g) (sym q) (record { low = leb-true _ _ u; high = ltb-true _ _ v }) in
                subst₃ (Reached g ws) q r s
                (child a.rule (places a) p (is_alternative (derives? nested) (it_derives nested) a f) (is_reached n _ _ _ k) l non)
          ]

      abbrev pub reached_alternative? : ℕ → Alternative → Bool
      reached_alternative? n a =
          alternative? (derives? nested) a && reached? n (left a) (cut a 0) (cut a (parts a))

      pub is_reached_alternative : (n : ℕ) (a : Alternative) → reached_alternative? n a ≡ true → ReachedAlternative g ws a.rule (places a)
      is_reached_alternative n a e =
          let (x, y) = and_parts _ _ e in
          (is_alternative (derives? nested) (it_derives nested) a x, is_reached n _ _ _ y)
