-- What it says that no row of the form applies: each row as plain facts, and how the facts give the row back.
use Rattle.std.proofs.Common.{◌≡◌, ℕ, ◌+◌, ◌<◌, ◌≤◌, ◌≢◌, List, length, get_or, refl, inl, inr, arith}
use native.Mathlib.Decide.{ℕ_discrete, dec_lt}
use Rattle.parsing.specs.Grammar.{Grammar, rule_count}
use Rattle.grammar_format.specs.Fields.{number}
use Rattle.table_format.specs.ItemSets.{symbols}
use Rattle.table_format.specs.Sheets.{states_told, symbols_told, rules_told, marks_at, ends_at, Form}
use Rattle.table_format.specs.Breaches.{FormBreach, CleanTo, Clean}

-- The rows are 20 to 23.
pub row_from : {g : Grammar} {b : List ℕ} {n p : ℕ} → FormBreach g b n p → (20 ≤ n) × (n < 24)
row_from (FormBreach.short h) = (omega arith, omega arith)
row_from (FormBreach.other_length h) = (omega arith, omega arith)
row_from (FormBreach.few_states h) = (omega arith, omega arith)
row_from (FormBreach.many_states h) = (omega arith, omega arith)
row_from (FormBreach.other_symbols h) = (omega arith, omega arith)
row_from (FormBreach.other_rules h) = (omega arith, omega arith)
row_from (FormBreach.steps_offset h) = (omega arith, omega arith)
row_from (FormBreach.marks_offset h) = (omega arith, omega arith)
row_from (FormBreach.uncounted h) = (omega arith, omega arith)
row_from (FormBreach.step_byte h l n i) = (omega arith, omega arith)
row_from (FormBreach.mark_byte h l i) = (omega arith, omega arith)

module _ {g : Grammar} {b : List ℕ} where
  -- Rows and places, one after another.
  pub clean_start : Clean g b 20
  clean_start m q (inl h) e = omega (arith, (row_from e).0)
  clean_start m q (inr h) e = omega (arith, h.1)

  pub clean_at : {n : ℕ} (p : ℕ) → CleanTo g b n p → (FormBreach g b n p → ⊥) → CleanTo g b n (p + 1)
  clean_at p c f m q (inl h) e = c m q (inl h) e
  clean_at p c f m q (inr h) e =
      elim (dec_lt q p) [
        | yes l ↦ c m q (inr (h.0, l)) e
        | no l ↦
            let i : q ≡ p = omega (arith, h.1) in
            f (rw (h.0, i) at e)
      ]

  pub clean_row : {n : ℕ} (p : ℕ) → CleanTo g b n p → ((q : ℕ) → p ≤ q → FormBreach g b n q → ⊥) → Clean g b (n + 1)
  clean_row {n} p c f m q x e =
      elim (dec_lt m n) [
        | yes l ↦ c m q (inl l) e
        | no l ↦ let i : m ≡ n = omega arith in last (rw i at e)
      ]
    where
      last : FormBreach g b n q → ⊥
      last e = elim (dec_lt q p) [ yes l ↦ c n q (inr (refl, l)) e | no l ↦ f q (omega arith) e ]

  -- A row that is passed whole does not apply.
  pub clean_none : {n p m q : ℕ} → CleanTo g b n p → m < n → FormBreach g b m q → ⊥
  clean_none {m = m} {q = q} c h e = c m q (inl h) e

  -- What each row asks.
  pub row_20 : 12 ≤ length b → number b 0 ≡ length b → {q : ℕ} → FormBreach g b 20 q → ⊥
  row_20 h e (FormBreach.short l) = omega arith
  row_20 h e (FormBreach.other_length n) = n e

  pub row_21 : 1 ≤ states_told b → states_told b ≤ 255 → symbols_told b ≡ symbols g → rules_told b ≡ rule_count g
      → {q : ℕ} → FormBreach g b 21 q → ⊥
  row_21 h l s r (FormBreach.few_states i) = omega arith
  row_21 h l s r (FormBreach.many_states i) = omega arith
  row_21 h l s r (FormBreach.other_symbols n) = n s
  row_21 h l s r (FormBreach.other_rules n) = n r

  pub row_22 : number b 8 ≡ 12 → number b 10 ≡ marks_at (states_told b) (symbols_told b)
      → length b ≡ ends_at (states_told b) (symbols_told b) (rules_told b) → {q : ℕ} → FormBreach g b 22 q → ⊥
  row_22 s m e (FormBreach.steps_offset n) = n s
  row_22 s m e (FormBreach.marks_offset n) = n m
  row_22 s m e (FormBreach.uncounted n) = n e

  pub row_23 : (p : ℕ) → (12 ≤ p → p < marks_at (states_told b) (symbols_told b) → get_or b p 0 ≢ 255 → get_or b p 0 < states_told b)
      → (marks_at (states_told b) (symbols_told b) ≤ p → p < ends_at (states_told b) (symbols_told b) (rules_told b) → get_or b p 0 ≤ 1)
      → FormBreach g b 23 p → ⊥
  row_23 p s m (FormBreach.step_byte h l n i) = omega (arith, s h l n)
  row_23 p s m (FormBreach.mark_byte h l i) = omega (arith, m h l)

  -- The bytes of the steps begin behind the header, and those of the marks end with the sheet.
  pub clean_header : Clean g b 23 → CleanTo g b 23 12
  clean_header c m q (inl h) e = c m q (inl h) e
  clean_header c m q (inr (e, h)) x = before q h (rw e at x)
    where
      before : (q : ℕ) → q < 12 → FormBreach g b 23 q → ⊥
      before q h (FormBreach.step_byte i l n k) = omega arith
      before q h (FormBreach.mark_byte i l k) = omega arith

  pub clean_end : length b ≡ ends_at (states_told b) (symbols_told b) (rules_told b) → CleanTo g b 23 (length b) → Clean g b 24
  clean_end e c = clean_row {n = 23} (length b) c behind
    where
      behind : (q : ℕ) → length b ≤ q → FormBreach g b 23 q → ⊥
      behind q h (FormBreach.step_byte i l n k) = omega arith
      behind q h (FormBreach.mark_byte i l k) = omega arith

  -- All rows together.
  pub form_clean : Form g b → Clean g b 24
  form_clean f =
      clean_row {n = 23} 0
      (clean_row {n = 22} 0
      (clean_row {n = 21} 0
      (clean_row {n = 20} 0 clean_start
      (λ q l. row_20 f.twelve f.whole))
      (λ q l. row_21 f.some_states f.few_states f.same_symbols f.same_rules))
      (λ q l. row_22 f.steps_offset f.marks_offset f.counted))
      (λ q l. row_23 q (f.step_bytes q) (f.mark_bytes q))

  pub clean_form : Clean g b 24 → Form g b
  clean_form c = record {
    twelve = omega (arith, λ (h : length b < 12). never (FormBreach.short h));
    whole = same (λ n. never (FormBreach.other_length n));
    some_states = omega (arith, λ (h : states_told b < 1). never (FormBreach.few_states h));
    few_states = omega (arith, λ (h : 255 < states_told b). never (FormBreach.many_states h));
    same_symbols = same (λ n. never (FormBreach.other_symbols n));
    same_rules = same (λ n. never (FormBreach.other_rules n));
    steps_offset = same (λ n. never (FormBreach.steps_offset n));
    marks_offset = same (λ n. never (FormBreach.marks_offset n));
    counted = same (λ n. never (FormBreach.uncounted n));
    step_bytes = λ p h l n. omega (arith, λ (i : states_told b ≤ get_or b p 0). never (FormBreach.step_byte h l n i));
    mark_bytes = λ p h l. omega (arith, λ (i : 1 < get_or b p 0). never (FormBreach.mark_byte h l i));
  }
    where
      never : {n p : ℕ} → FormBreach g b n p → ⊥
      never {n} {p} e = c n p (inl (row_from e).1) e

      same : {m n : ℕ} → (m ≢ n → ⊥) → m ≡ n
      same {m} {n} f = elim (ℕ_discrete m n) [ yes e ↦ e | no d ↦ absurd (f d) ]
