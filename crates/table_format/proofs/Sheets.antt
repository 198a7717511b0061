-- What table sheets say: the bytes of a table, and the table that bytes with the form say.
use Rattle.std.proofs.Common.{◌≡◌, ℕ, ◌+◌, ◌-◌, ◌*◌, ◌/◌, ◌%◌, ◌<◌, ◌≤◌, ◌≢◌, List, ◌++◌, length, get_or, take, drop, sym, refl, ap, ◌∙◌, arith, length-append, length-drop}
use native.Mathlib.Decide.{ℕ_discrete, dec_lt}
use Rattle.std.specs.List.{AllByRecursion as All}
use Rattle.std.proofs.lemmas.Nat.{mul-add-lt, mul-le}
use Rattle.std.proofs.ByRecursion.{All-append, All-get_or}
use Rattle.std.proofs.lemmas.List.{get_or_append_left, get_or-append-add, get_or-drop, get_or-take, get_or_past, length-take-le, take-append-drop, drop-drop}
use Rattle.parsing.specs.Grammar.{Grammar, rule_count}
use Rattle.grammar_format.specs.Fields.{number}
use Rattle.grammar_format.specs.Statements.{Bytes}
use Rattle.grammar_format.proofs.Numbers.{six, six_drop, six_0, six_2, six_4, six_6, six_8, six_10}
use Rattle.table_format.specs.ItemSets.{symbols}
use Rattle.table_format.specs.Tables.{Table, Ranged, Alike}
use Rattle.table_format.specs.Sheets.{states_told, symbols_told, rules_told, marks_at, ends_at, table_of, grid, header_bytes, table_bytes, Form}
use Rattle.table_format.proofs.Grids.{cell, length_grid, getD_grid, grid_is, all_grid}

-- The table that bytes say.
pub states_of : (b : List ℕ) → (table_of b).states ≡ states_told b
unfolding table_of
states_of b = refl

pub step_of : (b : List ℕ) (s X : ℕ) → (table_of b).step s X ≡ get_or b (12 + (s * symbols_told b + X)) 0
unfolding table_of
step_of b s X = refl

pub mark_of : (b : List ℕ) (s r : ℕ) → (table_of b).mark s r ≡ get_or b (marks_at (states_told b) (symbols_told b) + (s * rules_told b + r)) 0
unfolding table_of
mark_of b s r = refl

pub form_ranged : {g : Grammar} {b : List ℕ} → Form g b → Ranged g (table_of b)
unfolding table_of
form_ranged {b = b} f = record {
  some_states = f.some_states;
  few_states = f.few_states;
  step_in = λ s X h x.
      f.step_bytes (12 + (s * symbols_told b + X)) (omega arith)
      (omega (arith, mul-add-lt s (symbols_told b) X (states_told b) h (omega (arith, f.same_symbols))));
}

-- The bytes of a table.
module _ (g : Grammar) (t : Table) where
  abbrev M : ℕ
  M = t.states

  abbrev K : ℕ
  K = symbols g

  abbrev R : ℕ
  R = rule_count g

  abbrev steps : List ℕ
  steps = grid t.step M K

  abbrev marks : List ℕ
  marks = grid t.mark M R

  pub length_table_bytes : length (table_bytes g t) ≡ ends_at t.states (symbols g) (rule_count g)
  unfolding table_bytes
  length_table_bytes = omega (arith, length-append steps marks, length_grid t.step M K, length_grid t.mark M R)

  pub whole_bytes : number (table_bytes g t) 0 ≡ ends_at t.states (symbols g) (rule_count g)
  unfolding table_bytes
  whole_bytes = six_0 (ends_at M K R) M K R 12 (marks_at M K) (steps ++ marks)

  pub states_bytes : states_told (table_bytes g t) ≡ t.states
  unfolding table_bytes
  states_bytes = six_2 (ends_at M K R) M K R 12 (marks_at M K) (steps ++ marks)

  pub symbols_bytes : symbols_told (table_bytes g t) ≡ symbols g
  unfolding table_bytes
  symbols_bytes = six_4 (ends_at M K R) M K R 12 (marks_at M K) (steps ++ marks)

  pub rules_bytes : rules_told (table_bytes g t) ≡ rule_count g
  unfolding table_bytes
  rules_bytes = six_6 (ends_at M K R) M K R 12 (marks_at M K) (steps ++ marks)

  pub steps_at_bytes : number (table_bytes g t) 8 ≡ 12
  unfolding table_bytes
  steps_at_bytes = six_8 (ends_at M K R) M K R 12 (marks_at M K) (steps ++ marks)

  pub marks_at_bytes : number (table_bytes g t) 10 ≡ marks_at t.states (symbols g)
  unfolding table_bytes
  marks_at_bytes = six_10 (ends_at M K R) M K R 12 (marks_at M K) (steps ++ marks)

  -- The bytes behind the header.
  behind : (k : ℕ) → get_or (table_bytes g t) (12 + k) 0 ≡ get_or (steps ++ marks) k 0
  unfolding table_bytes
  behind k = get_or-append-add (header_bytes M K R) (steps ++ marks) k 0

  pub step_bytes_at : (s X : ℕ) → s < t.states → X < symbols g → get_or (table_bytes g t) (12 + (s * symbols g + X)) 0 ≡ t.step s X
  step_bytes_at s X h x =
      behind (s * K + X)
      ∙ (get_or_append_left steps marks 0 (s * K + X) (omega (arith, length_grid t.step M K, mul-add-lt s K X M h x))
      ∙ getD_grid t.step M K s X h x)

  pub mark_bytes_at : (s r : ℕ) → s < t.states → r < rule_count g
      → get_or (table_bytes g t) (marks_at t.states (symbols g) + (s * rule_count g + r)) 0 ≡ t.mark s r
  mark_bytes_at s r h x =
      ap (λ k. get_or (table_bytes g t) k 0) place
      ∙ (behind (length steps + (s * R + r)) ∙ (get_or-append-add steps marks (s * R + r) 0 ∙ getD_grid t.mark M R s r h x))
    where
      place : marks_at M K + (s * R + r) ≡ 12 + (length steps + (s * R + r))
      place = omega (arith, length_grid t.step M K)

  -- The bytes by their offsets.
  pub header_byte_at : (p : ℕ) → p < 12 → get_or (header_bytes t.states (symbols g) (rule_count g)) p 0 ≡ get_or (table_bytes g t) p 0
  unfolding table_bytes
  header_byte_at p h = sym (get_or_append_left (header_bytes M K R) (steps ++ marks) 0 p h)

  pub step_byte_at : (p : ℕ) → 12 ≤ p → p < marks_at t.states (symbols g)
      → t.step ((p - 12) / symbols g) ((p - 12) % symbols g) ≡ get_or (table_bytes g t) p 0
  step_byte_at p h l =
      let c = cell M K (p - 12) (omega arith) in
      let e : 12 + ((p - 12) / K * K + (p - 12) % K) ≡ p = omega (arith, c.is) in
      sym (step_bytes_at ((p - 12) / K) ((p - 12) % K) c.row_in c.column_in) ∙ ap (λ (k : ℕ). get_or (table_bytes g t) k 0) e

  pub mark_byte_at : (p : ℕ) → marks_at t.states (symbols g) ≤ p → p < ends_at t.states (symbols g) (rule_count g)
      → t.mark ((p - marks_at t.states (symbols g)) / rule_count g) ((p - marks_at t.states (symbols g)) % rule_count g)
      ≡ get_or (table_bytes g t) p 0
  mark_byte_at p h l =
      let k = p - marks_at M K in
      let c = cell M R k (omega arith) in
      let e : marks_at M K + (k / R * R + k % R) ≡ p = omega (arith, c.is) in
      sym (mark_bytes_at (k / R) (k % R) c.row_in c.column_in) ∙ ap (λ (k : ℕ). get_or (table_bytes g t) k 0) e

  -- They say that table.
  pub table_of_bytes : Alike g (table_of (table_bytes g t)) t
  table_of_bytes = record {
    states_are = states_of (table_bytes g t) ∙ states_bytes;
    steps_are = λ s X h x.
        step_of (table_bytes g t) s X
        ∙ (ap (λ n. get_or (table_bytes g t) (12 + (s * n + X)) 0) symbols_bytes ∙ step_bytes_at s X h x);
    marks_are = λ s r h x.
        mark_of (table_bytes g t) s r ∙ (rw (states_bytes, symbols_bytes, rules_bytes) (mark_bytes_at s r h x));
  }

  -- They have the form, where the steps and the marks are in their ranges.
  pub form_bytes : Ranged g t → ((s r : ℕ) → s < t.states → r < rule_count g → t.mark s r ≤ 1) → Form g (table_bytes g t)
  form_bytes rg low = record {
    twelve = omega (arith, length_table_bytes);
    whole = whole_bytes ∙ sym length_table_bytes;
    some_states = rw states_bytes rg.some_states;
    few_states = rw states_bytes rg.few_states;
    same_symbols = symbols_bytes;
    same_rules = rules_bytes;
    steps_offset = steps_at_bytes;
    marks_offset = rw (states_bytes, symbols_bytes) marks_at_bytes;
    counted = rw (states_bytes, symbols_bytes, rules_bytes) length_table_bytes;
    step_bytes = λ p h l. rw states_bytes (step_in p h (rw (states_bytes, symbols_bytes) at l));
    mark_bytes = λ p h l. mark_in p (rw (states_bytes, symbols_bytes) at h) (rw (states_bytes, symbols_bytes, rules_bytes) at l);
  }
    where
      step_in : (p : ℕ) → 12 ≤ p → p < marks_at M K → get_or (table_bytes g t) p 0 ≢ 255 → get_or (table_bytes g t) p 0 < M
      step_in p h l =
          let c = cell M K (p - 12) (omega arith) in
          rw (← step_byte_at p h l) (rg.step_in ((p - 12) / K) ((p - 12) % K) c.row_in c.column_in)

      mark_in : (p : ℕ) → marks_at M K ≤ p → p < ends_at M K R → get_or (table_bytes g t) p 0 ≤ 1
      mark_in p h l =
          let c = cell M R (p - marks_at M K) (omega arith) in
          rw (← mark_byte_at p h l) (low ((p - marks_at M K) / R) ((p - marks_at M K) % R) c.row_in c.column_in)

-- Both bytes of a number of 16 bits, in front of others.
wide_below : {A : Type 0} (n : ℕ) → n < 65536 → A → (n / 256 < 256) × ((n % 256 < 256) × A)
wide_below n h a = (omega arith, (omega arith, a))

-- All of them are bytes, where the symbols and the rules are few.
module _ {g : Grammar} {t : Table} (few_symbols : symbols g ≤ 64) (few_rules : rule_count g ≤ 64) (rg : Ranged g t)
    (low : (s r : ℕ) → s < t.states → r < rule_count g → t.mark s r ≤ 1) where
  pub table_bytes_few : ends_at t.states (symbols g) (rule_count g) ≤ 32652
  table_bytes_few =
      omega (arith, mul-le t.states (symbols g) 255 64 rg.few_states few_symbols, mul-le t.states (rule_count g) 255 64 rg.few_states few_rules)

  step_small : (s X : ℕ) → s < t.states → X < symbols g → t.step s X < 256
  step_small s X h x =
      elim (ℕ_discrete (t.step s X) 255) [
        | yes e ↦ omega arith
        | no n ↦ omega (arith, rg.step_in s X h x n, rg.few_states)
      ]

  all_bytes : All (λ x. x < 256) (table_bytes g t)
  unfolding table_bytes
  all_bytes =
      wide_below (ends_at t.states (symbols g) (rule_count g)) (omega (arith, table_bytes_few))
      (wide_below t.states (omega (arith, rg.few_states))
      (wide_below (symbols g) (omega arith)
      (wide_below (rule_count g) (omega arith)
      (wide_below 12 (omega arith)
      (wide_below (marks_at t.states (symbols g)) (omega (arith, table_bytes_few))
      (All-append (λ x. x < 256) (grid t.step t.states (symbols g)) (grid t.mark t.states (rule_count g))
      (all_grid (λ x. x < 256) t.step t.states (symbols g) step_small)
      (all_grid (λ x. x < 256) t.mark t.states (rule_count g) (λ s r h x. omega (arith, low s r h x)))))))))

  pub table_bytes_below : Bytes (table_bytes g t)
  table_bytes_below k =
      elim (dec_lt k (length (table_bytes g t))) [
        | yes h ↦ All-get_or (λ x. x < 256) (table_bytes g t) k 0 h all_bytes
        | no h ↦ omega (arith, get_or_past (table_bytes g t) k 0 (omega arith))
      ]

-- Bytes with the form are the bytes of the table that they say.
module _ {g : Grammar} {b : List ℕ} (f : Form g b) where
  steps_are : grid (table_of b).step (states_told b) (symbols_told b) ≡ take (states_told b * symbols_told b) (drop 12 b)
  steps_are =
      grid_is (table_of b).step (states_told b) (symbols_told b) (take (states_told b * symbols_told b) (drop 12 b))
      (length-take-le (states_told b * symbols_told b) (drop 12 b) (omega (arith, length-drop 12 b, f.counted)))
      (λ s X h x.
      step_of b s X
      ∙ sym (get_or-take (states_told b * symbols_told b) (drop 12 b) (s * symbols_told b + X) 0
      (omega (arith, mul-add-lt s (symbols_told b) X (states_told b) h x))
      ∙ get_or-drop 12 b (s * symbols_told b + X) 0))

  marks_are : grid (table_of b).mark (states_told b) (rules_told b) ≡ drop (states_told b * symbols_told b) (drop 12 b)
  marks_are =
      grid_is (table_of b).mark (states_told b) (rules_told b) (drop (states_told b * symbols_told b) (drop 12 b))
      (omega (arith, length-drop (states_told b * symbols_told b) (drop 12 b), length-drop 12 b, f.counted))
      (λ s r h x.
      mark_of b s r
      ∙ sym (ap (λ xs. get_or xs (s * rules_told b + r) 0) (drop-drop (states_told b * symbols_told b) 12 b)
      ∙ get_or-drop (marks_at (states_told b) (symbols_told b)) b (s * rules_told b + r) 0))

  pub table_bytes_of : Bytes b → table_bytes g (table_of b) ≡ b
  unfolding table_bytes
  table_bytes_of s =
      rw (← f.same_symbols, ← f.same_rules, states_of b, steps_are, marks_are, take-append-drop)
      (header (ends_at (states_told b) (symbols_told b) (rules_told b)) 12 (marks_at (states_told b) (symbols_told b))
      (omega (arith, f.whole, f.counted)) (sym f.steps_offset) (sym f.marks_offset)
      ∙ six_drop b s f.twelve)
    where
      header : (n₀ n₄ n₅ : ℕ) → n₀ ≡ number b 0 → n₄ ≡ number b 8 → n₅ ≡ number b 10
          → six n₀ (number b 2) (number b 4) (number b 6) n₄ n₅ ++ drop 12 b
          ≡ six (number b 0) (number b 2) (number b 4) (number b 6) (number b 8) (number b 10) ++ drop 12 b
      header n₀ n₄ n₅ e₀ e₄ e₅ = rw (e₀, e₄, e₅)
