-- The form: what has passed leaves no row that applies.
use Rattle.std.proofs.Common.{◌≡◌, ℕ, ◌+◌, ◌-◌, ◌<◌, ◌≤◌, ◌≢◌, false, Ok, Err, Result, MatchResult, is_ok, OkIff, List, length, get_or, take, drop, sym, ap, ◌∙◌, inl, inr, arith}
use Rattle.std.proofs.lemmas.Bool.{false≢true}
use Rattle.std.proofs.lemmas.List.{take_all, get_or-drop, length-drop}
use Rattle.parsing.specs.Grammar.{Grammar}
use Rattle.states.specs.declared.fault.TableFault.{TableFault}
use Rattle.table_format.specs.Sheets.{states_told, symbols_told, rules_told, marks_at, ends_at}
use Rattle.table_format.specs.Breaches.{FormBreach, CleanTo, Clean, step_byte, mark_byte}
use Rattle.table_format.proofs.Cleaning.{clean_start, clean_row, clean_end, clean_form, row_20, row_21, row_22, row_23}
use Rattle.tables.specs.declared.header.Header.{Header}
use Rattle.tables.specs.Heads.{Long, Counted, Told, Laid, Headed, Formed}
use Rattle.tables.specs.Faults.{Ranging}

pub clean_long : (g : Grammar) (b : List ℕ) → Long b → Clean g b 21
clean_long g b l = clean_row {n = 20} 0 clean_start (λ q h. row_20 l.head l.whole)

pub clean_counted : (g : Grammar) (b : List ℕ) → Long b → Counted g b → Clean g b 22
clean_counted g b l c =
    clean_row {n = 21} 0 (clean_long g b l) (λ q h. row_21 c.some_states c.few_states c.same_symbols c.same_rules)

pub clean_placed : {g : Grammar} {b : List ℕ} {h : Header} → Headed g b h → Clean g b 23
clean_placed {g} {b} d =
    clean_row {n = 22} 0 (clean_counted g b d.long d.counted)
    (λ q h. row_22 d.placed.steps_offset d.placed.marks_offset d.placed.counted)

-- A number that is narrowed to a byte: where it fits, and where it does not.
pub fits : {E : Type 0} (r : Result ℕ E) (n x : ℕ) → OkIff r (n < 256) n
    → MatchResult r (λ y. ◌≡◌ {A = Result ℕ TableFault} (Ok x) (Ok y)) (λ e. ⊥) → (n < 256) × (x ≡ n)
fits (Ok y) n x a e = (a.0, ok_same e ∙ a.1)
  where
    ok_same : {x y : ℕ} → ◌≡◌ {A = Result ℕ TableFault} (Ok x) (Ok y) → x ≡ y
    ok_same e = cc
fits (Err d) n x a e = absurd e

pub fits_not : {E : Type 0} (r : Result ℕ E) (n : ℕ) → OkIff r (n < 256) n → false ≡ is_ok r → 255 < n
fits_not (Ok y) n a e = absurd (false≢true e)
fits_not (Err d) n a e = omega arith

-- The fault of a read that failed.
pub err_same : {x y : TableFault} → ◌≡◌ {A = Result (List ℕ) TableFault} (Err x) (Err y) → x ≡ y
err_same e = cc

-- The offsets, by the header.
pub marks_told : {b : List ℕ} {h : Header} → Told b h → marks_at h.states h.symbols ≡ marks_at (states_told b) (symbols_told b)
marks_told t = rw (t.states_are, t.symbols_are)

pub ends_told : {b : List ℕ} {h : Header} → Told b h
    → ends_at h.states h.symbols h.rules ≡ ends_at (states_told b) (symbols_told b) (rules_told b)
ends_told t = rw (t.states_are, t.symbols_are, t.rules_are)

-- A sheet in parts: the step bytes xs, and the mark bytes ys from the offset m on.
pub record Parts (b : List ℕ) (h : Header) (xs ys : List ℕ) (m : ℕ) : Type 0 where
  pub at : m ≡ marks_at h.states h.symbols
  pub steps_long : length xs + 12 ≡ m
  pub marks_long : length ys + m ≡ length b
  pub step : (k : ℕ) → k < length xs → get_or xs k 0 ≡ get_or b (12 + k) 0
  pub mark : (k : ℕ) → get_or ys k 0 ≡ get_or b (m + k) 0

-- They are so where the sheet is cut at m, and its front, f, at 12.
pub parts : {b : List ℕ} (h : Header) (f : List ℕ) {ys : List ℕ} {m : ℕ} → m ≡ marks_at h.states h.symbols → length f ≡ m → length ys + m ≡ length b
    → ((k d : ℕ) → k < m → get_or f k d ≡ get_or b k d) → ((k d : ℕ) → get_or ys k d ≡ get_or b (m + k) d)
    → Parts b h (take (length f - 12) (drop 12 f)) ys m
parts h f {m = m} e l o p r = record {
  at = e;
  steps_long = long;
  marks_long = o;
  step = λ k i. ap (λ xs. get_or xs k 0) all ∙ (get_or-drop 12 f k 0 ∙ p (12 + k) 0 (omega (arith, long)));
  mark = λ k. r k 0;
}
  where
    all : take (length f - 12) (drop 12 f) ≡ drop 12 f
    all = take_all (length f - 12) (drop 12 f) (omega (arith, length-drop 12 f))

    long : length (take (length f - 12) (drop 12 f)) + 12 ≡ m
    long = omega (arith, ap length all, length-drop 12 f)

module _ {b : List ℕ} {h : Header} {xs ys : List ℕ} {m : ℕ} (s : Parts b h xs ys m) where
  step_at : (p : ℕ) → 12 ≤ p → p < m → (p - 12 < length xs) × (get_or xs (p - 12) 0 ≡ get_or b p 0)
  step_at p i j =
      let k : p - 12 < length xs = omega (arith, s.steps_long) in
      let e : 12 + (p - 12) ≡ p = omega arith in
      (k, s.step (p - 12) k ∙ ap (λ q. get_or b q 0) e)

  mark_at : (p : ℕ) → m ≤ p → get_or ys (p - m) 0 ≡ get_or b p 0
  mark_at p i = let e : m + (p - m) ≡ p = omega arith in s.mark (p - m) ∙ ap (λ q. get_or b q 0) e

module _ {g : Grammar} {b : List ℕ} {h : Header} (l : Laid b h) {xs ys : List ℕ} {m : ℕ} (s : Parts b h xs ys m) where
  -- Bytes that may stand where they stand, up to the place p.
  pub clean_bytes : (p : ℕ) → p ≤ length b → Clean g b 23
      → ((k : ℕ) → k < length xs → 12 + k < p → get_or xs k 0 ≢ 255 → get_or xs k 0 < h.states)
      → ((k : ℕ) → k < length ys → m + k < p → get_or ys k 0 ≤ 1) → CleanTo g b 23 p
  clean_bytes p i k f t n q (inl x) e = k n q (inl x) e
  clean_bytes p i k f t n q (inr (z, x)) e =
      row_23 q
      (λ j o u.
      let (v, w) = step_at s q j (omega (arith, s.at, marks_told l.told)) in
      let y = f (q - 12) v (omega arith) (λ a. u (sym w ∙ a)) in
      omega (arith, w, l.told.states_are))
      (λ j o.
      let v : m ≤ q = omega (arith, s.at, marks_told l.told) in
      let w = mark_at s q v in
      let y = t (q - m) (omega (arith, s.marks_long)) (omega arith) in
      omega arith)
      (rw z at e)

  -- One that may not is a breach.
  pub step_breach : (j : ℕ) → j < length xs → get_or xs j 0 ≢ 255 → h.states ≤ get_or xs j 0 → FormBreach g b 23 (12 + j)
  step_breach j i n x =
      let w = s.step j i in
      step_byte (omega arith) (omega (arith, s.at, s.steps_long, marks_told l.told)) (λ a. n (w ∙ a)) (omega (arith, w, l.told.states_are))

  pub mark_breach : (j : ℕ) → j < length ys → 1 < get_or ys j 0 → FormBreach g b 23 (m + j)
  mark_breach j i x =
      let w = s.mark j in
      mark_byte (omega (arith, s.at, marks_told l.told)) (omega (arith, s.marks_long, l.counted)) (omega (arith, w))

pub formed : {g : Grammar} {b : List ℕ} {h : Header} → Headed g b h → Ranging b (length b) → Formed g b h
formed {g} d r = record { form = clean_form (clean_end d.placed.counted (r g (clean_placed d))); told = d.told }
