-- The sheet that clean bytes say keeps the rules.
use Rattle.std.proofs.Common.{◌≡◌, ℕ, ◌<◌, ◌≢◌, List, [], length, get_or, sym, refl, ◌∙◌, inl, inr, arith}
use native.Mathlib.Decide.{ℕ_discrete}
use Rattle.parsing.specs.Grammar.{WellFormed, rule_count, lhs, rhs, start, goal}
use Rattle.parsing.proofs.Productivity.{productive?}
use Rattle.grammar_format.specs.Keeping.{Keeps, Spelled}
use Rattle.grammar_format.specs.Fields.{rules, symbols, block, right_length, right, spelling, grammar_of, sheet_of}
use Rattle.grammar_format.specs.Breaches.{Clean}
use Rattle.grammar_format.proofs.Cleaning.{WellSpelled}
use Rattle.grammar_format.proofs.Cleaning.{clean_headed, clean_rule, clean_goal, clean_spelled, clean_apart, clean_productive}
use Rattle.grammar_format.proofs.Reading.{rule_count_of, lhs_at, length_rhs_at, getD_rhs_at, spelling_count_of, spelling_at}

module _ {b : List ℕ} (c : Clean b 18) where
  -- A rule of the grammar has a block.
  rule_in : {r : ℕ} → r < rule_count (grammar_of b) → r < rules b
  rule_in h = omega (arith, rule_count_of b)

  length_at : (r : ℕ) → r < rules b → length (rhs (grammar_of b) r) ≡ right_length (block b r)
  length_at r h = length_rhs_at b r h (clean_headed c).fits (clean_rule c r h).short

  get_d_at : (r d : ℕ) → r < rules b → d < length (rhs (grammar_of b) r)
      → (d < right_length (block b r)) × (get_or (rhs (grammar_of b) r) d 0 ≡ right (block b r) d)
  get_d_at r d h l =
      let k : d < right_length (block b r) = omega (arith, length_at r h) in
      (k, getD_rhs_at b r h (clean_headed c).fits (clean_rule c r h).short d k)

  first_rule : 0 < rules b
  first_rule = omega (arith, (clean_headed c).some_rules)

  -- The start symbol is the right symbol of rule 0.
  one : length (rhs (grammar_of b) 0) ≡ 1
  one = length_at 0 first_rule ∙ (clean_goal c 0 first_rule).goal_length refl

  start_at : start (grammar_of b) ≡ right (block b 0) 0
  start_at = (get_d_at 0 0 first_rule (omega (arith, one))).1

  start_above : goal (grammar_of b) < start (grammar_of b)
  start_above = rw start_at ((clean_goal c 0 first_rule).start_above refl)

  start_known : start (grammar_of b) < symbols b
  start_known = rw start_at ((clean_rule c 0 first_rule).known 0 (get_d_at 0 0 first_rule (omega (arith, one))).0)

  -- The goal stands in no other rule.
  once : (r : ℕ) → r < rules b → lhs (grammar_of b) r ≡ goal (grammar_of b) → r ≡ 0
  once r h e =
      elim (ℕ_discrete r 0) [
        | yes z ↦ z
        | no n ↦ absurd ((clean_goal c r h).left_other (omega arith) (sym (lhs_at b r h) ∙ e))
      ]

  unused : (r d : ℕ) → r < rules b → d < length (rhs (grammar_of b) r) → get_or (rhs (grammar_of b) r) d 0 ≢ goal (grammar_of b)
  unused r d h l e =
      elim (ℕ_discrete r 0) [
        | yes z ↦ first (rw z at l) (rw z at e)
        | no n ↦ (clean_goal c r h).unused d (omega arith) (get_d_at r d h l).0 (sym (get_d_at r d h l).1 ∙ e)
      ]
    where
      first : d < length (rhs (grammar_of b) 0) → get_or (rhs (grammar_of b) 0) d 0 ≡ goal (grammar_of b) → ⊥
      first i e =
          let z : d ≡ 0 = omega (arith, one) in
          omega (arith, start_above, rw z at e)

  pub grammar_well_formed : WellFormed (grammar_of b)
  grammar_well_formed = record {
    two_rules = rw (rule_count_of b) (clean_headed c).some_rules;
    few_rules = rw (rule_count_of b) (clean_headed c).few_rules;
    left_in = λ r h. record {
      low = rw (lhs_at b r (rule_in h)) (clean_rule c r (rule_in h)).left_from;
      high = rw (lhs_at b r (rule_in h)) (clean_rule c r (rule_in h)).left_under;
    };
    right_in = λ r d h l.
        let (k, e) = get_d_at r d (rule_in h) l in
        rw e ((clean_rule c r (rule_in h)).known d k);
    short = λ r h. rw (length_at r (rule_in h)) (clean_rule c r (rule_in h)).short;
    goal_left = lhs_at b 0 first_rule ∙ (clean_goal c 0 first_rule).goal_left refl;
    goal_right = one;
    start_in = record { low = omega (arith, start_above); high = start_known };
    start_goal = λ e. omega (arith, start_above);
    goal_once = λ r h. once r (rule_in h);
    goal_unused = λ r d h. unused r d (rule_in h);
    productive = λ X n. elim (productive? (grammar_of b) X) [ inl p ↦ ∣ p ∣₁ | inr m ↦ absurd (clean_productive c X n m) ];
  }

  -- The spellings.
  amount : WellSpelled 0 (spelling b 0) → spelling b 0 ≡ []
  amount (inl x) = x.1
  amount (inr x) = absurd (omega (arith, x.0))

  word : {t : ℕ} → 0 < t → WellSpelled t (spelling b t) → Spelled (spelling b t)
  word p (inl x) = absurd (omega (arith, x.0))
  word p (inr x) = x.1

  pub sheet_keeps : Keeps (sheet_of b)
  sheet_keeps = record {
    some_terminals = (clean_headed c).some_terminals;
    few_terminals = (clean_headed c).few_terminals;
    some_nonterminals = (clean_headed c).some_nonterminals;
    few_nonterminals = (clean_headed c).few_nonterminals;
    well_formed = grammar_well_formed;
    one_each = spelling_count_of b;
    amount = spelling_at b 0 (clean_headed c).some_terminals ∙ amount (clean_spelled c 0 (clean_headed c).some_terminals);
    spelled = λ t p h. rw (spelling_at b t h) (word p (clean_spelled c t h));
    apart = λ t u l h e.
        clean_apart c t u l h (sym (spelling_at b u (omega arith)) ∙ (e ∙ spelling_at b t h));
  }
