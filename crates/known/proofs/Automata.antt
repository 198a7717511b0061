-- An automaton that passes the tests has the LR(0) item sets of its grammar as its rows, and their steps.
use Rattle.std.proofs.Common.{◌≡◌, ℕ, zero, suc, ◌<◌, ◌≤◌, Bool, true, false, cond, not, ◌&&◌, ◌||◌, eqb, ltb, leb, List, [], ◌∷◌, get_or, Some, sym, refl, ap, subst, inl, inr, arith}
use Rattle.std.proofs.lemmas.Bool.{and_parts, or_cases, eqb-true, ltb-true, lt-ltb, leb-true, both_ways}
use Rattle.parsing.specs.Grammar.{Grammar, rule_count, WellFormed}
use Rattle.table_format.specs.ItemSets.{Items, symbols, FirstRow, StepTo, ItemSet, first, step, RightSides}
use Rattle.table_format.specs.Tables.{RightStep, Matches, answered, source_of}
use Rattle.table_format.proofs.Rows.{completed_one, completed_from, step_from, step_one, not_both, step_symbol}
use Rattle.table_format.proofs.Sources.{lawful, bounded}
use Rattle.table_format.proofs.Counting.{rows_each_once, set_count}
use Rattle.link_growth.specs.Entries.{Mem, head, tail}
use Rattle.states.specs.Sources.{Sourced}
use Rattle.known.specs.Automata.{Transition, Automaton, states, row, step_byte, table, source, RowsAre, IsStep, StepsAre}
use Rattle.known.proofs.Tests.{all_below, at_below, some_below, found_below, all_of, at_member}
use Rattle.known.proofs.Members.{once?, is_once}
use Rattle.known.proofs.RowBytes.{bytes?, inside, is_row}
use Rattle.known.proofs.Completing.{Inside, completes?, first_kernel, first_completes, step_kernel, step_completes}
use Rattle.known.proofs.Completing.{moves?, is_moving, stays?, is_staying}

-- Two tests differ.
abbrev differ : Bool → Bool → Bool
differ x y = cond x (not y) y

differ_self : (x : Bool) → differ x x ≡ false
differ_self true = refl
differ_self false = refl

abbrev pub transition_code : Transition → List ℕ
transition_code t = t.state ∷ t.symbol ∷ t.to ∷ []

-- A step byte other than 255 is told by a step.
told_step : (ts : List Transition) (s X : ℕ) → step_byte ts s X < 255 → Mem (record { state = s; symbol = X; to = step_byte ts s X }) ts
told_step [] s X h = absurd (omega arith)
told_step (t ∷ ts) s X h = go (told_step ts s X) (eqb t.state s && eqb t.symbol X) refl h
  where
    go : (step_byte ts s X < 255 → Mem (record { state = s; symbol = X; to = step_byte ts s X }) ts)
        → (c : Bool) → (eqb t.state s && eqb t.symbol X) ≡ c → cond c t.to (step_byte ts s X) < 255
        → Mem (record { state = s; symbol = X; to = cond c t.to (step_byte ts s X) }) (t ∷ ts)
    go below true e h =
        let (a, b) = and_parts _ _ e in
        let p = eqb-true _ _ a in
        let q = eqb-true _ _ b in
        let same : t ≡ record { state = s; symbol = X; to = t.to } = λ i. record { state = p i; symbol = q i; to = t.to } in
        subst (λ u. Mem u (t ∷ ts)) same head
    go below false e h = tail (below h)

module _ (a : Automaton) where
  abbrev g : Grammar
  g = a.grammar

  abbrev rows? : Bool
  rows? = all_below (states a) (λ s. bytes? (rule_count g) (get_or a.rows s []))

  -- The step byte b of s by X is right: none moves, or what moves is completed to the row of b.
  abbrev leads? : ℕ → ℕ → ℕ → Bool
  leads? s X b = ltb b (states a) && (moves? g (row a s) X && completes? g (step_kernel g (row a s) X) (row a b))

  abbrev step? : ℕ → ℕ → ℕ → Bool
  step? s X b = cond (eqb b 255) (stays? g (row a s) X) (leads? s X b)

  abbrev steps? : Bool
  steps? = all_below (states a) (λ s. all_below (symbols g) (λ X. step? s X (step_byte a.steps s X)))

  abbrev differ_at : ℕ → ℕ → ℕ → ℕ → Bool
  differ_at s u r d = differ (row a s r d) (row a u r d)

  abbrev apart? : Bool
  apart? =
      all_below (states a) (λ s. all_below (states a) (λ u.
      eqb s u || some_below (rule_count g) (λ r. some_below 8 (differ_at s u r))))

  -- A step of an earlier state leads to each state but the first.
  abbrev reached? : Bool
  reached? =
      all_below (states a) (λ s.
      eqb s 0 || some_below s (λ b. some_below (symbols g) (λ X. eqb (step_byte a.steps b X) s)))

  -- Each step of the list is the one that is found for its state and symbol, which are in the ranges.
  abbrev listed? : Bool
  listed? =
      all_of (λ t.
      eqb (step_byte a.steps t.state t.symbol) t.to
      && (ltb t.state (states a) && (ltb t.symbol (symbols g) && ltb t.to 255))) a.steps

  abbrev pub automaton? : Bool
  automaton? =
      (ltb 0 (states a) && leb (states a) 255)
      && (rows?
      && (completes? g (first_kernel g) (row a 0)
      && (steps? && (apart? && (reached? && (listed? && once? transition_code a.steps))))))

  record Passed : Type 0 where
    some : 0 < states a
    few : states a ≤ 255
    rows_pass : rows? ≡ true
    first_passes : completes? g (first_kernel g) (row a 0) ≡ true
    steps_pass : steps? ≡ true
    rows_apart : apart? ≡ true
    all_reached : reached? ≡ true
    all_listed : listed? ≡ true
    once : once? transition_code a.steps ≡ true

  passed : automaton? ≡ true → Passed
  passed e =
      let (e0, f0) = and_parts _ _ e in
      let (a0, b0) = and_parts _ _ e0 in
      let (e1, f1) = and_parts _ _ f0 in
      let (e2, f2) = and_parts _ _ f1 in
      let (e3, f3) = and_parts _ _ f2 in
      let (e4, f4) = and_parts _ _ f3 in
      let (e5, f5) = and_parts _ _ f4 in
      let (e6, f6) = and_parts _ _ f5 in
      record {
        some = ltb-true _ _ a0;
        few = leb-true _ _ b0;
        rows_pass = e1;
        first_passes = e2;
        steps_pass = e3;
        rows_apart = e4;
        all_reached = e5;
        all_listed = e6;
        once = f6;
      }

  module _ (wf : WellFormed g) (e : automaton? ≡ true) where
    pass : Passed
    pass = passed e

    right_sides : RightSides g
    right_sides = wf.right_in

    row_inside : (s : ℕ) → s < states a → Inside (rule_count g) (row a s)
    row_inside s h = inside (rule_count g) (get_or a.rows s []) (at_below (states a) _ pass.rows_pass s h)

    pub some_states : 0 < states a
    some_states = pass.some

    pub few_states : states a ≤ 255
    few_states = pass.few

    pub first_row : FirstRow g (row a 0)
    first_row =
        let some : 0 < rule_count g = omega (arith, wf.two_rules) in
        completed_from (first_completes g some (row a 0) (row_inside 0 pass.some) pass.first_passes)

    pub right_step : (s X : ℕ) → s < states a → X < symbols g → RightStep g (states a) (row a) (row a s) X (step_byte a.steps s X)
    right_step s X h x =
        go (step_byte a.steps s X) (eqb (step_byte a.steps s X) 255) refl
        (at_below (symbols g) _ (at_below (states a) _ pass.steps_pass s h) X x)
      where
        go : (b : ℕ) (c : Bool) → eqb b 255 ≡ c → cond c (stays? g (row a s) X) (leads? s X b) ≡ true
            → RightStep g (states a) (row a) (row a s) X b
        go b true q t = inl (eqb-true _ _ q, is_staying g (row a s) X t)
        go b false q t =
            let (l, u) = and_parts _ _ t in
            let (m, v) = and_parts _ _ u in
            let b_in = ltb-true _ _ l in
            inr (
              b_in,
              step_from (is_moving g (row a s) X m)
                  (step_completes g (row a s) X wf.short (row a b) (row_inside b b_in) v),
            )

    pub one-to-one : (s u : ℕ) → s < states a → u < states a → row a s ≡ row a u → s ≡ u
    one-to-one s u hs hu q =
        elim (or_cases _ _ (at_below (states a) _ (at_below (states a) _ pass.rows_apart s hs) u hu)) [
          | inl x ↦ eqb-true _ _ x
          | inr x ↦
              let (r, _, y) = found_below (rule_count g) _ x in
              let (d, _, z) = found_below 8 (differ_at s u r) y in
              absurd (both_ways _ (subst (λ (t : Bool). differ (row a s r d) t ≡ false) (ap (λ (w : Items). w r d) q) (differ_self (row a s r d))) z)
        ]

    item_set : (n s : ℕ) → s < n → s < states a → ItemSet g (row a s)
    item_set zero s l h = absurd (omega arith)
    item_set (suc n) s l h =
        elim (or_cases _ _ (at_below (states a) _ pass.all_reached s h)) [
          | inl x ↦ subst (λ u. ItemSet g (row a u)) (sym (eqb-true _ _ x)) (first first_row)
          | inr x ↦
              let (b, lb, y) = found_below s _ x in
              let (X, lx, z) = found_below (symbols g) _ y in
              let is = eqb-true _ _ z in
              let hb : b < states a = omega arith in
              elim (right_step b X hb lx) [
                | inl v ↦ absurd (omega (arith, v.0, pass.few))
                | inr v ↦ step X (item_set n b (omega arith) hb) (subst (λ u. StepTo g (row a b) X (row a u)) is v.1)
              ]
        ]

    onto : {w : Items} → ItemSet g w → (s : ℕ) × (s < states a) × (row a s ≡ w)
    onto (first f) = (0, pass.some, completed_one {g = g} first_row f)
    onto (step {w = w} X i st) =
        let (s, h, q) = onto i in
        let from : StepTo g (row a s) X w = subst (λ v. StepTo g v X w) (sym q) st in
        elim (right_step s X h (step_symbol right_sides st)) [
          | inl v ↦ absurd (not_both from v.1)
          | inr v ↦ (step_byte a.steps s X, v.0, step_one v.1 from)
        ]

    pub matches : Matches g (table a) (row a)
    matches = record {
      item_sets = λ s h. ∣ item_set (suc s) s (omega arith) h ∣₁;
      one-to-one = one-to-one;
      onto = λ w. onto;
      zero_first = first_row;
      steps = right_step;
      marks = λ s r h l. refl;
    }

    pub is_sourced : 1 ≤ g.terminals → g.terminals ≤ 40 → 2 ≤ g.nonterminals → g.nonterminals ≤ 24 → Sourced (source a)
    unfolding source_of
    is_sourced t u n m = record {
      lawful = lawful right_sides pass.few matches;
      bounded = bounded g (table a) (row a);
      some_states = pass.some;
      few_states = pass.few;
      well_formed = wf;
      some_terminals = t;
      few_terminals = u;
      some_nonterminals = n;
      few_nonterminals = m;
    }

    pub rows_are : RowsAre a
    rows_are = record {
      bytes = λ s h. is_row (rule_count g) (get_or a.rows s []) (at_below (states a) _ pass.rows_pass s h) wf.few_rules;
      each_once = rows_each_once matches;
      count = set_count matches;
      first = first_row;
    }

    -- A step of the list is found, and leads from a row to its step.
    record Found (t : Transition) : Type 0 where
      byte : step_byte a.steps t.state t.symbol ≡ t.to
      state_in : t.state < states a
      symbol_in : t.symbol < symbols g
      low : t.to < 255

    found_step : (t : Transition) → Mem t a.steps → Found t
    found_step t m =
        let (p, x) = and_parts _ _ (at_member _ t a.steps pass.all_listed m) in
        let (q, y) = and_parts _ _ x in
        let (u, v) = and_parts _ _ y in
        record {
          byte = eqb-true _ _ p;
          state_in = ltb-true _ _ q;
          symbol_in = ltb-true _ _ u;
          low = ltb-true _ _ v;
        }

    is_step : (t : Transition) → Mem t a.steps → IsStep a t
    is_step t m =
        let f = found_step t m in
        elim (right_step t.state t.symbol f.state_in f.symbol_in) [
          | inl v ↦ absurd (omega (arith, v.0, f.byte, f.low))
          | inr v ↦ record {
            from_in = f.state_in;
            to_in = subst (λ u. u < states a) f.byte v.0;
            step = subst (λ u. StepTo g (row a t.state) t.symbol (row a u)) f.byte v.1;
          }
        ]

    step_listed : (t : Transition) → IsStep a t → Mem t a.steps
    step_listed t s =
        let b = step_byte a.steps t.state t.symbol in
        elim (right_step t.state t.symbol s.from_in (step_symbol right_sides s.step)) [
          | inl v ↦ absurd (not_both s.step v.1)
          | inr v ↦
              let same : b ≡ t.to = one-to-one b t.to v.0 s.to_in (step_one v.1 s.step) in
              subst (λ u. Mem (record { state = t.state; symbol = t.symbol; to = u }) a.steps) same
              (told_step a.steps t.state t.symbol (omega (arith, v.0, pass.few)))
        ]

    -- The test of `next`.
    abbrev answers? : Transition → Bool
    answers? t = ltb t.state (states a) && (ltb t.symbol (symbols g) && ltb (step_byte a.steps t.state t.symbol) 255)

    pub steps_are : StepsAre a
    unfolding source_of
    steps_are = record {
      once = is_once transition_code a.steps pass.once;
      steps = λ t. (step_listed t, is_step t);
      answers = λ t. (
        answer_listed t (answers? t) refl,
        λ m.
            let f = found_step t m in
            rw (f.byte, lt-ltb _ _ f.state_in, lt-ltb _ _ f.symbol_in, lt-ltb _ _ f.low) refl,
      );
    }
      where
        answer_listed : (t : Transition) (c : Bool) → answers? t ≡ c
            → answered c (step_byte a.steps t.state t.symbol) ≡ Some t.to → Mem t a.steps
        answer_listed t true q e =
            let same : step_byte a.steps t.state t.symbol ≡ t.to = cc in
            let (_, x) = and_parts _ _ q in
            let (_, y) = and_parts (ltb t.symbol (symbols g)) _ x in
            subst (λ u. Mem (record { state = t.state; symbol = t.symbol; to = u }) a.steps) same
            (told_step a.steps t.state t.symbol (ltb-true _ _ y))
        answer_listed t false q e = let z : ◌≡◌ {A = ℕ} 0 1 = cc in absurd (omega arith)
