-- The bytes of a sheet that keeps the rules say that sheet, and no row applies to them.
use Rattle.std.proofs.Common.{◌≡◌, ℕ, zero, suc, ◌+◌, ◌*◌, ◌<◌, ◌≤◌, List, [], ◌++◌, length, get_or, take, drop, sym, ap, ◌∙◌, subst, inl, inr, append_assoc, arith, length-append, drop-cons, drop-drop, take_at}
use mathlib.Core.Logic.{∥∥₁_elim}
use mathlib.Core.HLevel.{⊥_prop}
use native.Mathlib.Decide.{ℕ_discrete}
use lib.Seq.{drop-length}
use Rattle.std.specs.List.{flat_map}
use Rattle.parsing.specs.Grammar.{Rule, Nonterminal, Productive, rule_count, rule, lhs, rhs}
use Rattle.grammar_format.specs.Sheets.{Sheet, rule_bytes, spelling_bytes, rules_bytes, spellings_bytes, rules_end, sheet_bytes}
use Rattle.grammar_format.specs.Keeping.{Keeps, spelling_of}
use Rattle.grammar_format.specs.Fields.{number, terminals, nonterminals, rules, block, right, rule_of}
use Rattle.grammar_format.specs.Fields.{first_spelling, behind_spelling, remains, spelling, rules_of, grammar_of, sheet_of}
use Rattle.grammar_format.specs.Breaches.{Breach, Clean}
use Rattle.grammar_format.proofs.Listed.{listed_is, length_joined, drop_joined}
use Rattle.grammar_format.proofs.Numbers.{six_0, six_2, six_4, six_6, six_8, six_10}
use Rattle.grammar_format.proofs.Cleaning.{Headed, Formed, GoalKept, WellSpelled, all_clean}
use Rattle.grammar_format.proofs.Rules.{length_rule_bytes, rule_of_bytes, right_rule_bytes, rest_rule_bytes}
use Rattle.grammar_format.proofs.Spellings.{first_bytes, behind_bytes}

-- The header.
module _ (s : Sheet) where
  abbrev whole : ℕ
  whole = 12 + (length (rules_bytes s) + length (spellings_bytes s))

  abbrev T : ℕ
  T = s.grammar.terminals

  abbrev N : ℕ
  N = s.grammar.nonterminals

  abbrev R : ℕ
  R = rule_count s.grammar

  abbrev body : List ℕ
  body = rules_bytes s ++ spellings_bytes s

  pub length_sheet_bytes : length (sheet_bytes s) ≡ 12 + (length (rules_bytes s) + length (spellings_bytes s))
  unfolding sheet_bytes
  length_sheet_bytes = omega (arith, length-append (rules_bytes s) (spellings_bytes s))

  pub whole_bytes : number (sheet_bytes s) 0 ≡ length (sheet_bytes s)
  unfolding sheet_bytes
  whole_bytes = six_0 whole T N R 12 (rules_end R) body ∙ sym length_sheet_bytes

  pub terminals_bytes : terminals (sheet_bytes s) ≡ s.grammar.terminals
  unfolding sheet_bytes
  terminals_bytes = six_2 whole T N R 12 (rules_end R) body

  pub nonterminals_bytes : nonterminals (sheet_bytes s) ≡ s.grammar.nonterminals
  unfolding sheet_bytes
  nonterminals_bytes = six_4 whole T N R 12 (rules_end R) body

  pub rule_count_bytes : rules (sheet_bytes s) ≡ rule_count s.grammar
  unfolding sheet_bytes
  rule_count_bytes = six_6 whole T N R 12 (rules_end R) body

  pub rules_at_bytes : number (sheet_bytes s) 8 ≡ 12
  unfolding sheet_bytes
  rules_at_bytes = six_8 whole T N R 12 (rules_end R) body

  pub spellings_at_bytes : number (sheet_bytes s) 10 ≡ rules_end (rule_count s.grammar)
  unfolding sheet_bytes
  spellings_at_bytes = six_10 whole T N R 12 (rules_end R) body

module _ {s : Sheet} (k : Keeps s) where
  -- The rules.
  short_at : (r : ℕ) → r < R s → length (rule s.grammar r).right ≤ 7
  unfolding rhs
  short_at r h = k.well_formed.short r h

  nine : (r : ℕ) → r < R s → length (rule_bytes (get_or s.grammar.rules r (record { left = 0; right = [] }))) ≡ 9
  unfolding rule
  nine r h = length_rule_bytes (rule s.grammar r) (short_at r h)

  pub length_rules_bytes : length (rules_bytes s) ≡ 9 * rule_count s.grammar
  length_rules_bytes = length_joined rule_bytes 9 (record { left = 0; right = [] }) s.grammar.rules nine

  -- The bytes from the rule r on.
  from_rule : (r : ℕ) → r ≤ R s → drop (rules_end r) (sheet_bytes s) ≡ flat_map rule_bytes (drop r s.grammar.rules) ++ spellings_bytes s
  unfolding sheet_bytes
  from_rule r h =
      sym (drop-drop (9 * r) 12 (sheet_bytes s))
      ∙ drop_joined rule_bytes 9 (record { left = 0; right = [] }) s.grammar.rules (spellings_bytes s) r nine h

  pub block_bytes : (r : ℕ) → r < rule_count s.grammar → block (sheet_bytes s) r ≡ rule_bytes (rule s.grammar r)
  unfolding block rule
  block_bytes r h =
      let p : Rule = rule s.grammar r in
      let ps : List Rule = drop (suc r) s.grammar.rules in
      ap (take 9) (from_rule r (omega arith)
      ∙ (ap (λ x. flat_map rule_bytes x ++ spellings_bytes s) (drop-cons s.grammar.rules r (record { left = 0; right = [] }) h)
      ∙ append_assoc (rule_bytes p) (flat_map rule_bytes ps) (spellings_bytes s)))
      ∙ take_at (rule_bytes p) (flat_map rule_bytes ps ++ spellings_bytes s) 9 (nine r h)

  -- The spellings.
  pub remains_bytes : (t : ℕ) → t ≤ s.grammar.terminals → remains (sheet_bytes s) t ≡ flat_map spelling_bytes (drop t s.spellings)
  unfolding remains
  remains_bytes zero h =
      ap (λ n. drop (rules_end n) (sheet_bytes s)) (rule_count_bytes s)
      ∙ (from_rule (R s) (omega arith) ∙ ap (λ x. flat_map rule_bytes x ++ spellings_bytes s) (drop-length s.grammar.rules))
  remains_bytes (suc t) h =
      ap behind_spelling (remains_bytes t (omega arith) ∙ ap (flat_map spelling_bytes) (drop-cons s.spellings t [] (omega (arith, k.one_each))))
      ∙ behind_bytes (spelling_of s t) (flat_map spelling_bytes (drop (suc t) s.spellings))

  remains_first : (t : ℕ) → t < T s
      → remains (sheet_bytes s) t ≡ spelling_bytes (spelling_of s t) ++ flat_map spelling_bytes (drop (suc t) s.spellings)
  remains_first t h = remains_bytes t (omega arith) ∙ ap (flat_map spelling_bytes) (drop-cons s.spellings t [] (omega (arith, k.one_each)))

  pub spelling_bytes_at : (t : ℕ) → t < s.grammar.terminals → spelling (sheet_bytes s) t ≡ spelling_of s t
  unfolding spelling
  spelling_bytes_at t h = ap first_spelling (remains_first t h) ∙ first_bytes (spelling_of s t) (flat_map spelling_bytes (drop (suc t) s.spellings))

  uncut : (t : ℕ) → t < T s → get_or (remains (sheet_bytes s) t) 0 0 < length (remains (sheet_bytes s) t)
  uncut t h =
      rw (remains_first t h)
      (omega (arith, length-append (spelling_of s t) (flat_map spelling_bytes (drop (suc t) s.spellings))))

  pub remains_end : remains (sheet_bytes s) s.grammar.terminals ≡ []
  remains_end =
      remains_bytes (T s) (omega arith)
      ∙ ap (flat_map spelling_bytes) (ap (λ n. drop n s.spellings) (sym k.one_each) ∙ drop-length s.spellings)

  -- The sheet that the bytes say.
  pub rules_of_bytes : rules_of (sheet_bytes s) ≡ s.grammar.rules
  unfolding rule
  rules_of_bytes =
      listed_is (λ r. rule_of (block (sheet_bytes s) r)) s.grammar.rules (rules (sheet_bytes s)) (record { left = 0; right = [] })
      (sym (rule_count_bytes s))
      (λ r h.
      let l : r < R s = omega (arith, rule_count_bytes s) in
      ap rule_of (block_bytes r l) ∙ rule_of_bytes (rule s.grammar r) (short_at r l))

  pub grammar_of_bytes : grammar_of (sheet_bytes s) ≡ s.grammar
  grammar_of_bytes = λ i. record { terminals = terminals_bytes s i; nonterminals = nonterminals_bytes s i; rules = rules_of_bytes i }

  pub sheet_of_bytes : sheet_of (sheet_bytes s) ≡ s
  sheet_of_bytes = λ i. record { grammar = grammar_of_bytes i; spellings = words i }
    where
      words : (sheet_of (sheet_bytes s)).spellings ≡ s.spellings
      words =
          listed_is (spelling (sheet_bytes s)) s.spellings (terminals (sheet_bytes s)) [] (k.one_each ∙ sym (terminals_bytes s))
          (λ t h. spelling_bytes_at t (omega (arith, terminals_bytes s)))

  -- No row applies.
  headed_bytes : Headed (sheet_bytes s)
  headed_bytes = record {
    twelve = omega (arith, length_sheet_bytes s);
    whole = whole_bytes s;
    some_terminals = rw (terminals_bytes s) k.some_terminals;
    few_terminals = rw (terminals_bytes s) k.few_terminals;
    some_nonterminals = rw (nonterminals_bytes s) k.some_nonterminals;
    few_nonterminals = rw (nonterminals_bytes s) k.few_nonterminals;
    some_rules = rw (rule_count_bytes s) k.well_formed.two_rules;
    few_rules = rw (rule_count_bytes s) k.well_formed.few_rules;
    rules_at = rules_at_bytes s;
    spellings_at = rw (rule_count_bytes s) (spellings_at_bytes s);
    fits = omega (arith, rule_count_bytes s, length_sheet_bytes s, length_rules_bytes);
  }

  formed_bytes : (r : ℕ) → r < R s → Formed (T s) (T s + N s) (rule_bytes (rule s.grammar r))
  unfolding lhs rhs
  formed_bytes r h = record {
    left_from = (k.well_formed.left_in r h).low;
    left_under = (k.well_formed.left_in r h).high;
    short = short_at r h;
    known = λ d l. rw (right_rule_bytes (rule s.grammar r) (short_at r h) d l) (k.well_formed.right_in r d h l);
    filled = rest_rule_bytes (rule s.grammar r) (short_at r h);
  }

  goal_bytes : (r : ℕ) → r < R s → GoalKept (T s) r (rule_bytes (rule s.grammar r))
  unfolding lhs rhs
  goal_bytes r h = record {
    goal_left = λ z. rw z k.well_formed.goal_left;
    goal_length = λ z. rw z k.well_formed.goal_right;
    start_above = λ z. rw z above;
    left_other = λ p e. omega (arith, k.well_formed.goal_once r h e);
    unused = λ d p l e. k.well_formed.goal_unused r d h l (sym (right_rule_bytes (rule s.grammar r) (short_at r h) d l) ∙ e);
  }
    where
      first : 0 < R s
      first = omega (arith, k.well_formed.two_rules)

      above : T s < right (rule_bytes (rule s.grammar 0)) 0
      above =
          let e = right_rule_bytes (rule s.grammar 0) (short_at 0 first) 0 (omega (arith, k.well_formed.goal_right)) in
          omega (arith, e, k.well_formed.start_in.low, k.well_formed.start_goal)

  spelled_bytes : (t : ℕ) → t < T s → WellSpelled t (spelling_of s t)
  spelled_bytes t h =
      elim (ℕ_discrete t 0) [
        | yes z ↦ inl (z, rw z k.amount)
        | no n ↦ inr (omega arith, k.spelled t (omega arith) h)
      ]

  productive_bytes : (X : ℕ) → Nonterminal (grammar_of (sheet_bytes s)) X → (Productive (grammar_of (sheet_bytes s)) X → ⊥) → ⊥
  productive_bytes =
      subst (λ g. (X : ℕ) → Nonterminal g X → (Productive g X → ⊥) → ⊥) (sym grammar_of_bytes)
      (λ X n f. ∥∥₁_elim (k.well_formed.productive X n) ⊥_prop f)

  pub clean_bytes : Clean (sheet_bytes s) 18
  clean_bytes =
      all_clean headed_bytes
      (λ r h.
      let l : r < R s = omega (arith, rule_count_bytes s) in
      rw (terminals_bytes s, nonterminals_bytes s, block_bytes r l) (formed_bytes r l))
      (λ r h.
      let l : r < R s = omega (arith, rule_count_bytes s) in
      rw (terminals_bytes s, block_bytes r l) (goal_bytes r l))
      (λ t h. uncut t (omega (arith, terminals_bytes s)))
      (λ t h.
      let l : t < T s = omega (arith, terminals_bytes s) in
      rw (spelling_bytes_at t l) (spelled_bytes t l))
      (rw (terminals_bytes s) remains_end)
      (λ t u l h e.
      let i : t < T s = omega (arith, terminals_bytes s) in
      k.apart t u l i (sym (spelling_bytes_at u (omega arith)) ∙ (e ∙ spelling_bytes_at t i)))
      productive_bytes

-- So bytes to which a row applies are those of no sheet that keeps the rules.
row_under : {b : List ℕ} {n p : ℕ} → Breach b n p → n < 18
row_under (Breach.short h) = omega arith
row_under (Breach.other_length h) = omega arith
row_under (Breach.few_terminals h) = omega arith
row_under (Breach.many_terminals h) = omega arith
row_under (Breach.few_nonterminals h) = omega arith
row_under (Breach.many_nonterminals h) = omega arith
row_under (Breach.few_rules h) = omega arith
row_under (Breach.many_rules h) = omega arith
row_under (Breach.rules_offset h) = omega arith
row_under (Breach.spellings_offset h) = omega arith
row_under (Breach.overrun h) = omega arith
row_under (Breach.rule_form h i) = omega arith
row_under (Breach.goal_rule h i) = omega arith
row_under (Breach.cut h i) = omega arith
row_under (Breach.spelling_form h i) = omega arith
row_under (Breach.left_over h) = omega arith
row_under (Breach.repeated u h i e) = omega arith
row_under (Breach.unproductive h i) = omega arith

pub breach_never : {b : List ℕ} {n p : ℕ} → Breach b n p → (s : Sheet) → Keeps s → sheet_bytes s ≡ b → ⊥
breach_never {b} {n} {p} x s k e = clean_bytes k n p (inl (row_under x)) (rw e x)
