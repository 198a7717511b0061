-- A table whose states match the LR(0) item sets has as many states as there are item sets.
use Rattle.std.proofs.Common.{◌≡◌, ℕ, ◌<◌, ◌≤◌, false, List, length, sym, ◌∙◌, arith}
use mathlib.Core.Logic.{∥∥₁_elim}
use Rattle.parsing.specs.Grammar.{Grammar}
use Rattle.grammar_format.specs.Fields.{listed}
use Rattle.grammar_format.proofs.Listed.{length_listed, getD_listed}
use Rattle.table_format.specs.ItemSets.{Items}
use Rattle.table_format.specs.Tables.{Table, Matches, row_of, EachOnce, SetCount}
use Rattle.table_format.proofs.Pigeons.{pigeons}
use Rattle.table_format.proofs.Props.{state_prop}

-- Of two lists that hold each item set once, neither is longer.
no_longer : {g : Grammar} {vs ws : List Items} → EachOnce g vs → EachOnce g ws → length vs ≤ length ws
no_longer {vs = vs} {ws = ws} p q =
    pigeons (length vs) (length ws) (λ k h. (place k h).0) (λ k h. (place k h).1)
    (λ k l h i e. p.apart k l h i (sym (place k h).2 ∙ rw e (place l i).2))
  where
    place : (k : ℕ) → k < length vs → (l : ℕ) × (l < length ws) × (row_of ws l ≡ row_of vs k)
    place k h =
        let one = state_prop {M = length ws} {rows = row_of ws} q.apart (row_of vs k) in
        ∥∥₁_elim (p.item_sets k h) one (λ i. ∥∥₁_elim (q.all (row_of vs k) i) one (λ x. x))

pub rows_each_once : {g : Grammar} {t : Table} {rows : ℕ → Items} → Matches g t rows → EachOnce g (listed rows t.states)
rows_each_once {t = t} {rows = rows} m = record {
  item_sets = λ k h. rw (row k (in_states h)) (m.item_sets k (in_states h));
  all = λ w i.
      let (s, h, e) = m.onto w i in
      ∣ (s, omega (arith, length_listed rows t.states), row s h ∙ e) ∣₁;
  apart = λ k l h i e.
      m.one-to-one k l (in_states h) (in_states i) (sym (row k (in_states h)) ∙ (e ∙ row l (in_states i)));
}
  where
    in_states : {k : ℕ} → k < length (listed rows t.states) → k < t.states
    in_states h = omega (arith, length_listed rows t.states)

    row : (k : ℕ) → k < t.states → row_of (listed rows t.states) k ≡ rows k
    row k h = getD_listed rows t.states k (λ r d. false) h

pub each_once_length : {g : Grammar} {t : Table} {rows : ℕ → Items} → Matches g t rows → (ws : List Items) → EachOnce g ws → length ws ≡ t.states
each_once_length {t = t} {rows = rows} m ws p =
    let q = rows_each_once m in
    omega (arith, length_listed rows t.states, no_longer p q, no_longer q p)

pub set_count : {g : Grammar} {t : Table} {rows : ℕ → Items} → Matches g t rows → SetCount g t.states
set_count {t = t} {rows = rows} m = record { some = ∣ (listed rows t.states, rows_each_once m) ∣₁; every = each_once_length m }
