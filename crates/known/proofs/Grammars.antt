-- A grammar that passes the tests is well-formed.
use Rattle.std.proofs.Common.{◌≡◌, ℕ, ◌+◌, ◌<◌, ◌≤◌, Bool, true, not, ◌&&◌, eqb, ltb, leb, List, length, get_or}
use Rattle.std.proofs.lemmas.Bool.{and_parts, eqb-true, eq-eqb, ltb-true, leb-true, le-leb, not-true, both_ways}
use Rattle.parsing.specs.Grammar.{Grammar, rule_count, lhs, rhs, goal, start, Nonterminal, WellFormed}
use Rattle.records.specs.declared.alternative.Alternative.{Alternative}
use Rattle.known.proofs.Tests.{implies, implied, all_below, at_below}
use Rattle.known.proofs.Derivations.{derives?, it_derives}

module _ (g : Grammar) where
  abbrev nonterminal? : ℕ → Bool
  nonterminal? X = leb g.terminals X && ltb X (g.terminals + g.nonterminals)

  is_nonterminal : (X : ℕ) → nonterminal? X ≡ true → Nonterminal g X
  is_nonterminal X e =
      let (a, b) = and_parts _ _ e in
      record { low = leb-true _ _ a; high = ltb-true _ _ b }

  abbrev symbol? : ℕ → Bool
  symbol? X = ltb X (g.terminals + g.nonterminals) && not (eqb X (goal g))

  abbrev rule? : ℕ → Bool
  rule? r =
      (nonterminal? (lhs g r) && leb (length (rhs g r)) 7)
      && (implies (eqb (lhs g r) (goal g)) (eqb r 0) && all_below (length (rhs g r)) (λ d. symbol? (get_or (rhs g r) d 0)))

  abbrev front? : Bool
  front? =
      (leb 2 (rule_count g) && leb (rule_count g) 64)
      && ((eqb (lhs g 0) (goal g) && eqb (length (rhs g 0)) 1) && (nonterminal? (start g) && not (eqb (start g) (goal g))))

  -- All nonterminals derive the words ws, by alternatives of the list.
  abbrev productive? : List ℕ → List Alternative → Bool
  productive? ws alts = all_below (g.terminals + g.nonterminals) (λ X. implies (leb g.terminals X) (derives? g ws alts 3 X 0 (length ws)))

  abbrev pub well_formed? : List ℕ → List Alternative → Bool
  well_formed? ws alts = front? && (all_below (rule_count g) rule? && productive? ws alts)

  record RuleForm (r : ℕ) : Type 0 where
    left_in : Nonterminal g (lhs g r)
    short : length (rhs g r) ≤ 7
    goal_once : lhs g r ≡ goal g → r ≡ 0
    right_in : (d : ℕ) → d < length (rhs g r) → get_or (rhs g r) d 0 < g.terminals + g.nonterminals
    goal_unused : (d : ℕ) → d < length (rhs g r) → get_or (rhs g r) d 0 ≡ goal g → ⊥

  rule_form : (r : ℕ) → rule? r ≡ true → RuleForm r
  rule_form r e =
      let (x, y) = and_parts _ _ e in
      let (a, b) = and_parts _ _ x in
      let (c, d) = and_parts _ _ y in
      record {
        left_in = is_nonterminal (lhs g r) a;
        short = leb-true _ _ b;
        goal_once = λ q. eqb-true _ _ (implied _ _ c (eq-eqb _ _ q));
        right_in = λ k h. ltb-true _ _ (and_parts _ _ (at_below (length (rhs g r)) _ d k h)).0;
        goal_unused = λ k h q.
            both_ways _ (not-true _ (and_parts _ _ (at_below (length (rhs g r)) _ d k h)).1)
            (eq-eqb _ _ q);
      }

  pub is_well_formed : (ws : List ℕ) (alts : List Alternative) → well_formed? ws alts ≡ true → WellFormed g
  is_well_formed ws alts e =
      let (f, y) = and_parts _ _ e in
      let (rs, ps) = and_parts _ _ y in
      let (f0, f1) = and_parts _ _ f in
      let (a, b) = and_parts _ _ f0 in
      let (f2, f3) = and_parts _ _ f1 in
      let (c, d) = and_parts _ _ f2 in
      let (s, n) = and_parts _ _ f3 in
      let form : (r : ℕ) → r < rule_count g → RuleForm r = λ r h. rule_form r (at_below (rule_count g) rule? rs r h) in
      record {
        two_rules = leb-true _ _ a;
        few_rules = leb-true _ _ b;
        left_in = λ r h. (form r h).left_in;
        right_in = λ r d h. (form r h).right_in d;
        short = λ r h. (form r h).short;
        goal_left = eqb-true _ _ c;
        goal_right = eqb-true _ _ d;
        start_in = is_nonterminal (start g) s;
        start_goal = λ q. both_ways _ (not-true _ n) (eq-eqb _ _ q);
        goal_once = λ r h. (form r h).goal_once;
        goal_unused = λ r d h. (form r h).goal_unused d;
        productive = λ X x.
            let t = implied _ _ (at_below (g.terminals + g.nonterminals) _ ps X x.high) (le-leb _ _ x.low) in
            ∣ (ws, it_derives g ws alts 3 X 0 (length ws) t) ∣₁;
      }
