-- An automaton that passes the tests has its states numbered as the walk over its table meets them.
use Rattle.std.proofs.Common.{◌≡◌, ℕ, zero, suc, ◌<◌, ◌≤◌, Bool, true, false, cond, ◌&&◌, eqb, ltb, leb, List, [], ◌∷◌, ◌++◌, length, refl, sym, ap, ◌∙◌, subst, inl, inr, arith, add-one}
use Rattle.std.proofs.lemmas.Bool.{and_parts, eqb-true, eq-eqb, ltb-true, leb-true, both_ways}
use Rattle.parsing.specs.Grammar.{Grammar, rule_count, WellFormed}
use Rattle.grammar_format.specs.Fields.{listed}
use Rattle.grammar_format.proofs.Listed.{length_listed, getD_listed}
use Rattle.table_format.specs.ItemSets.{symbols, StepTo}
use Rattle.table_format.specs.Tables.{RightStep}
use Rattle.table_format.specs.Walks.{Known, blank, state_at, row_at, KnownAt, Walked, begin, mark, turn, all_right}
use Rattle.table_format.proofs.Turns.{At, at_none, at_met, at_new}
use Rattle.known.specs.Automata.{Automaton, states, row, step_byte, table, InOrder}
use Rattle.known.proofs.Tests.{all_below, at_below}
use Rattle.known.proofs.Automata.{automaton?, some_states, few_states, first_row, right_step, one-to-one}

-- How many states are known after a step byte b, where n were known before; a byte leads to a known state or to the next one.
abbrev after : ℕ → ℕ → ℕ
after b n = cond (eqb b 255) n (cond (eqb b n) (suc n) n)

abbrev leads? : ℕ → ℕ → Bool
leads? b n = cond (eqb b 255) true (leb b n)

module _ (a : Automaton) where
  abbrev g : Grammar
  g = a.grammar

  abbrev byte : ℕ → ℕ → ℕ
  byte i X = step_byte a.steps i X

  -- The states below n, each known with its row.
  abbrev known : ℕ → List Known
  known n = listed (λ s. record { state = s; row = row a s }) n

  -- How many are known after the symbols below X of the state i, where n were known before, and after all symbols of the states below i.
  abbrev after_symbols : ℕ → ℕ → ℕ → ℕ
  after_symbols i zero n = n
  after_symbols i (suc X) n = after (byte i X) (after_symbols i X n)

  abbrev after_states : ℕ → ℕ
  after_states zero = 1
  after_states (suc i) = after_symbols i (symbols g) (after_states i)

  abbrev symbols? : ℕ → ℕ → ℕ → Bool
  symbols? i zero n = true
  symbols? i (suc X) n = symbols? i X n && leads? (byte i X) (after_symbols i X n)

  abbrev state? : ℕ → Bool
  state? i = ltb i (after_states i) && symbols? i (symbols g) (after_states i)

  abbrev pub in_order? : Bool
  in_order? = all_below (states a) state? && eqb (after_states (states a)) (states a)

  known_length : (n : ℕ) → length (known n) ≡ n
  known_length n = length_listed (λ s. record { state = s; row = row a s }) n

  state_is : (n k : ℕ) → k < n → state_at (known n) k ≡ k
  unfolding state_at
  state_is n k h = ap (λ (x : Known). x.state) (getD_listed (λ s. record { state = s; row = row a s }) n k blank h)

  row_is : (n k : ℕ) → k < n → row_at (known n) k ≡ row a k
  unfolding row_at
  row_is n k h = ap (λ (x : Known). x.row) (getD_listed (λ s. record { state = s; row = row a s }) n k blank h)

  known_at : (n k : ℕ) → k < n → KnownAt (known n) k k
  known_at n k h = record { within = omega (arith, known_length n); is = state_is n k h }

  module _ (wf : WellFormed g) (ok : automaton? a ≡ true) where
    -- The walk has come to the symbol X of the state i, and n states are known.
    record Come (i X n : ℕ) : Type 0 where
      few : n ≤ states a
      inside : i < n
      walked : Walked g (table a) (known n) i X 0

    -- One symbol more. The step byte is b.
    module _ (i X n : ℕ) (x : X < symbols g) (c : Come i X n) (b : ℕ) (q : b ≡ byte i X) where
      here : At g (table a) (known n) i X (row a i) i b
      here = record {
        come = c.walked;
        inside = omega (arith, c.inside, known_length n);
        symbol = x;
        row = sym (row_is n i c.inside);
        state = sym (state_is n i c.inside);
        byte = q;
      }

      -- It leads to a known state, or to the next one.
      known_or_next : b ≤ n → b < states a → StepTo g (row a i) X (row a b) → (t : Bool) → eqb b n ≡ t → Come i (suc X) (cond t (suc n) n)
      unfolding listed
      known_or_next l h step true e =
          let next : b ≡ n = eqb-true b n e in
          record {
            few = omega arith;
            inside = omega (arith, c.inside);
            walked =
                subst (λ k. Walked g (table a) (known n ++ record { state = k; row = row a k } ∷ []) i (suc X) 0) next
                (rw add-one at
                (at_new here step (λ y. omega (arith, few_states a wf ok))
                (λ j k y. let m : j < n = omega (arith, known_length n) in omega (arith, state_is n j m))
                (λ j k y.
                let m : j < n = omega (arith, known_length n) in
                omega (arith, one-to-one a wf ok j b (omega (arith, c.few)) h (sym (row_is n j m) ∙ y)))));
          }
      known_or_next l h step false e =
          let below : b < n = omega (arith, λ (y : b ≡ n). both_ways _ e (eq-eqb _ _ y)) in
          record {
            few = c.few;
            inside = c.inside;
            walked =
                rw add-one at
                (at_met here step (λ y. omega (arith, few_states a wf ok)) b (known_at n b below) (row a b) (sym (row_is n b below)) refl);
          }

      tried : leads? b n ≡ true → RightStep g (states a) (row a) (row a i) X b → Come i (suc X) (after b n)
      tried t (inl (none, staying)) =
          rw (eq-eqb _ _ none) (record { few = c.few; inside = c.inside; walked = rw add-one at (at_none here staying none) })
      tried t (inr (h, step)) = leading (eqb b 255) refl t
        where
          leading : (u : Bool) → eqb b 255 ≡ u → cond u true (leb b n) ≡ true → Come i (suc X) (cond u n (cond (eqb b n) (suc n) n))
          leading true y t = absurd (omega (arith, eqb-true b 255 y, few_states a wf ok))
          leading false y t = known_or_next (leb-true _ _ t) h step (eqb b n) refl

    try_symbols : (i n m : ℕ) → m ≤ symbols g → symbols? i m n ≡ true → Come i 0 n → Come i m (after_symbols i m n)
    try_symbols i n zero l t c = c
    try_symbols i n (suc m) l t c =
        let (u, v) = and_parts _ _ t in
        let before = try_symbols i n m (omega arith) u c in
        tried i m (after_symbols i m n) (omega arith) before (byte i m) refl v
        (right_step a wf ok i m (omega (arith, before.inside, before.few)) (omega arith))

    -- The mark of each rule is the one wanted.
    try_rules : (i n r : ℕ) → r ≤ rule_count g → Come i (symbols g) n → Walked g (table a) (known n) i (symbols g) r
    try_rules i n zero l c = c.walked
    try_rules i n (suc r) l c =
        mark (try_rules i n r (omega arith) c) (omega (arith, c.inside, known_length n)) l
        (rw (state_is n i c.inside, row_is n i c.inside) refl)

    module _ (t : in_order? ≡ true) where
      record Turned (i : ℕ) : Type 0 where
        few : after_states i ≤ states a
        walked : Walked g (table a) (known (after_states i)) i 0 0

      try_states : (i : ℕ) → i ≤ states a → Turned i
      unfolding listed
      try_states zero l = record { few = some_states a wf ok; walked = begin (first_row a wf ok) }
      try_states (suc i) l =
          let before = try_states i (omega arith) in
          let (u, v) = and_parts _ _ (at_below (states a) state? (and_parts _ _ t).0 i (omega arith)) in
          let start : Come i 0 (after_states i) = record { few = before.few; inside = ltb-true _ _ u; walked = before.walked } in
          let all = try_symbols i (after_states i) (symbols g) (omega arith) v start in
          let n = after_states (suc i) in
          record {
            few = all.few;
            walked = turn (try_rules i n (rule_count g) (omega arith) all) (omega (arith, all.inside, known_length n));
          }

      pub in_order : InOrder a
      in_order =
          let come : Walked g (table a) (known (states a)) (states a) 0 0 =
          subst (λ n. Walked g (table a) (known n) (states a) 0 0) (eqb-true _ _ (and_parts _ _ t).1) (try_states (states a) (omega arith)).walked in
          record {
            walked = come;
            passed =
                all_right (subst (λ n. Walked g (table a) (known (states a)) n 0 0) (sym (known_length (states a))) come)
                (λ s h. (s, known_at (states a) s h));
          }
