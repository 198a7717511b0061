-- The table of refusals of grammar sheets: which row applies to some bytes, at which place, and which comes first.
--   IllFormed T K x      the nine bytes x are no rule over K symbols, of which T are terminals
--   GoalMisused T r x    the rule r, in nine bytes x, misuses the goal T
--   IllSpelled t w       the bytes w may not spell the terminal t
--   Breach b n p         the row n applies to the bytes b at the place p
--   CleanTo b n p        no row applies before the row n at the place p
--   First b n p          the row n at the place p is the first that applies
use Rattle.std.specs.Prelude.{◌≡◌, ℕ, ◌<◌, ◌≤◌, ◌≢◌, ◌⊎◌, List, length, slice_index}
use Rattle.parsing.specs.Grammar.{Nonterminal, Productive}
use Rattle.grammar_format.specs.Sheets.{rules_end}
use Rattle.grammar_format.specs.Keeping.{Letter, AllDigits}
use Rattle.grammar_format.specs.Fields.{number, terminals, nonterminals, rules, symbols, block, left, right_length, right}
use Rattle.grammar_format.specs.Fields.{remains, spelling, grammar_of}

-- The left symbol is a nonterminal, the length is 0 to 7, the right symbols are symbols, and those past the length are 255.
pub data IllFormed (T K : ℕ) (x : List ℕ) : Type 0 where
  left_low : left x < T → IllFormed T K x
  left_high : K ≤ left x → IllFormed T K x
  long : 7 < right_length x → IllFormed T K x
  unknown : (d : ℕ) → d < 7 → d < right_length x → K ≤ right x d → IllFormed T K x
  unfilled : (d : ℕ) → d < 7 → right_length x ≤ d → right x d ≢ 255 → IllFormed T K x

-- Rule 0 has the goal on the left and one other nonterminal on the right; the goal stands in no other rule.
pub data GoalMisused (T : ℕ) (r : ℕ) (x : List ℕ) : Type 0 where
  other_left : r ≡ 0 → left x ≢ T → GoalMisused T r x
  other_length : r ≡ 0 → right_length x ≢ 1 → GoalMisused T r x
  no_start : r ≡ 0 → right x 0 ≤ T → GoalMisused T r x
  again : 0 < r → left x ≡ T → GoalMisused T r x
  within : (d : ℕ) → 0 < r → d < right_length x → right x d ≡ T → GoalMisused T r x

-- Terminal 0 has no bytes; another has 1 to 12, all of them letters, and not all of them digits.
pub data IllSpelled (t : ℕ) (w : List ℕ) : Type 0 where
  amount : t ≡ 0 → 0 < length w → IllSpelled t w
  empty : 0 < t → length w ≡ 0 → IllSpelled t w
  lengthy : 12 < length w → IllSpelled t w
  no_letter : (k : ℕ) → k < length w → (Letter (slice_index w k) → ⊥) → IllSpelled t w
  digits : 0 < t → AllDigits w → IllSpelled t w

pub data Breach (b : List ℕ) : ℕ → ℕ → Type 0 where
  short : length b < 12 → Breach b 10 0
  other_length : number b 0 ≢ length b → Breach b 10 0
  few_terminals : terminals b < 1 → Breach b 11 0
  many_terminals : 40 < terminals b → Breach b 11 0
  few_nonterminals : nonterminals b < 2 → Breach b 11 0
  many_nonterminals : 24 < nonterminals b → Breach b 11 0
  few_rules : rules b < 2 → Breach b 11 0
  many_rules : 64 < rules b → Breach b 11 0
  rules_offset : number b 8 ≢ 12 → Breach b 12 0
  spellings_offset : number b 10 ≢ rules_end (rules b) → Breach b 12 0
  overrun : length b < rules_end (rules b) → Breach b 12 0
  rule_form : {r : ℕ} → r < rules b → IllFormed (terminals b) (symbols b) (block b r) → Breach b 13 r
  goal_rule : {r : ℕ} → r < rules b → GoalMisused (terminals b) r (block b r) → Breach b 14 r
  -- The length byte, or the bytes that it counts, run past the end.
  cut : {t : ℕ} → t < terminals b → length (remains b t) ≤ slice_index (remains b t) 0 → Breach b 15 t
  spelling_form : {t : ℕ} → t < terminals b → IllSpelled t (spelling b t) → Breach b 15 t
  left_over : 0 < length (remains b (terminals b)) → Breach b 15 (terminals b)
  repeated : {t : ℕ} (u : ℕ) → u < t → t < terminals b → spelling b u ≡ spelling b t → Breach b 16 t
  unproductive : {X : ℕ} → Nonterminal (grammar_of b) X → (Productive (grammar_of b) X → ⊥) → Breach b 17 X

-- Rows go by their number, and within a row by place.
abbrev pub Before : ℕ → ℕ → ℕ → ℕ → Type 0
Before m q n p = (m < n) ⊎ ((m ≡ n) × (q < p))

abbrev pub CleanTo : List ℕ → ℕ → ℕ → Type 0
CleanTo b n p = (m q : ℕ) → Before m q n p → Breach b m q → ⊥

-- No row below n applies anywhere.
abbrev pub Clean : List ℕ → ℕ → Type 0
Clean b n = CleanTo b n 0

pub record First (b : List ℕ) (n p : ℕ) : Type 0 where
  pub applies : Breach b n p
  pub before : CleanTo b n p
