-- What holds of a table holds of every table that agrees with it: its matching, and its walk as far as it has come.
use Rattle.std.proofs.Common.{◌≡◌, ℕ, suc, ◌<◌, List, [], ◌∷◌, ◌++◌, length, sym, refl, ◌∙◌, subst, inl, inr, arith}
use Rattle.parsing.specs.Grammar.{Grammar, rule_count}
use Rattle.table_format.specs.ItemSets.{Items, symbols}
use Rattle.table_format.specs.Tables.{Table, Ranged, Matches, Alike}
use Rattle.table_format.specs.Walks.{Known, state_at, byte_at}
use Rattle.table_format.specs.Walks.{Walked, begin, none, met, new, mark, turn}
use Rattle.table_format.specs.Walks.{Outcome, Walk, all_right, step_where_none, step_lacking, other_row, known_row, mark_wrong, never_reached}
use Rattle.table_format.proofs.KnownStates.{length_more, state_before}
use Rattle.table_format.proofs.Progress.{Tried, kept}

pub alike_sym : {g : Grammar} {t u : Table} → Alike g t u → Alike g u t
alike_sym a = record {
  states_are = sym a.states_are;
  steps_are = λ s X h x. sym (a.steps_are s X (rw a.states_are at h) x);
  marks_are = λ s r h x. sym (a.marks_are s r (rw a.states_are at h) x);
}

pub matches_alike : {g : Grammar} {t u : Table} {rows : ℕ → Items} → Alike g u t → Matches g t rows → Matches g u rows
matches_alike {g} {t} {u} {rows} a m = record {
  item_sets = λ s h. m.item_sets s (below h);
  one-to-one = λ s v h k. m.one-to-one s v (below h) (below k);
  onto = λ w i.
      let (s, h, e) = m.onto w i in
      (s, rw a.states_are h, e);
  zero_first = m.zero_first;
  steps = λ s X h x. rw (a.states_are, a.steps_are s X (below h) x) (m.steps s X (below h) x);
  marks = λ s r h x. a.marks_are s r (below h) x ∙ m.marks s r (below h) x;
}
  where
    below : {s : ℕ} → s < u.states → s < t.states
    below h = rw a.states_are at h

-- The tables t and u agree on all that is tried of the known states before the symbol X and the rule r of the one in place i.
pub record AlikeTo (g : Grammar) (t u : Table) (ks : List Known) (i X r : ℕ) : Type 0 where
  pub steps_are : (j y : ℕ) → j < length ks → y < symbols g → Tried i X j y → u.step (state_at ks j) y ≡ t.step (state_at ks j) y
  pub marks_are : (j q : ℕ) → j < length ks → q < rule_count g → Tried i r j q → u.mark (state_at ks j) q ≡ t.mark (state_at ks j) q

tried_before : {i x j y : ℕ} → Tried i x j y → Tried i (suc x) j y
tried_before (inl h) = inl h
tried_before (inr h) = inr (h.0, omega (arith, h.1))

tried_turned : {i x j y : ℕ} → Tried i x j y → Tried (suc i) 0 j y
tried_turned (inl h) = inl (omega arith)
tried_turned (inr h) = inl (omega (arith, h.0))

module _ {g : Grammar} {t u : Table} where
  -- What agrees up to a try agrees up to the one before it.
  symbol_back : {ks : List Known} {i X : ℕ} → AlikeTo g t u ks i (suc X) 0 → AlikeTo g t u ks i X 0
  symbol_back a = record {
    steps_are = λ j y h x d. a.steps_are j y h x (tried_before d);
    marks_are = a.marks_are;
  }

  rule_back : {ks : List Known} {i X r : ℕ} → AlikeTo g t u ks i X (suc r) → AlikeTo g t u ks i X r
  rule_back a = record {
    steps_are = a.steps_are;
    marks_are = λ j q h l d. a.marks_are j q h l (tried_before d);
  }

  turn_back : {ks : List Known} {i X r : ℕ} → AlikeTo g t u ks (suc i) 0 0 → AlikeTo g t u ks i X r
  turn_back a = record {
    steps_are = λ j y h x d. a.steps_are j y h x (tried_turned d);
    marks_are = λ j q h l d. a.marks_are j q h l (tried_turned d);
  }

  known_back : (ks : List Known) (k : Known) {i X r : ℕ} → AlikeTo g t u (ks ++ k ∷ []) i X r → AlikeTo g t u ks i X r
  known_back ks k a = record {
    steps_are = λ j y h x d. rw (← state_before ks k j h) (a.steps_are j y (omega (arith, length_more ks k)) x d);
    marks_are = λ j q h l d. rw (← state_before ks k j h) (a.marks_are j q (omega (arith, length_more ks k)) l d);
  }

  step_here : {ks : List Known} {i X : ℕ} → AlikeTo g t u ks i (suc X) 0 → i < length ks → X < symbols g → byte_at u ks i X ≡ byte_at t ks i X
  step_here {i = i} {X = X} a h x = a.steps_are i X h x (inr (refl, omega arith))

  pub walked_alike : {ks : List Known} {i X r : ℕ} → AlikeTo g t u ks i X r → Walked g t ks i X r → Walked g u ks i X r
  walked_alike a (begin f) = begin f
  walked_alike a (none w h x n e) = none (walked_alike (symbol_back a) w) h x n (step_here a h x ∙ e)
  walked_alike a (met j w h x s ne k) =
      let e = step_here a h x in
      met j (walked_alike (symbol_back a) w) h x s (λ p. ne (sym e ∙ p)) (rw e k)
  walked_alike a (new {ks = ks} {i = i} {X = X} {w = v} w h x s ne ns nr) =
      let b = known_back ks (record { state = byte_at t ks i X; row = v }) a in
      let e = step_here b h x in
      subst (λ y. Walked g u (ks ++ record { state = y; row = v } ∷ []) i (suc X) 0) e
      (new (walked_alike (symbol_back b) w) h x s (λ p. ne (sym e ∙ p)) (λ j l p. ns j l (p ∙ e)) nr)
  walked_alike a (mark {i = i} {r = r} w h l e) =
      mark (walked_alike (rule_back a) w) h l (a.marks_are i r h l (inr (refl, omega arith)) ∙ e)
  walked_alike a (turn w h) = turn (walked_alike (turn_back a) w) h

-- So tables that agree have the same outcome.
module _ {g : Grammar} {t u : Table} (rg : Ranged g t) (a : Alike g u t) where
  alike_to : {ks : List Known} {i X r : ℕ} → Walked g t ks i X r → (j Y q : ℕ) → AlikeTo g t u ks j Y q
  alike_to {ks} w i X r = record {
    steps_are = λ j y h x d. a.steps_are (state_at ks j) y ((kept rg w).state_in j h) x;
    marks_are = λ j q h l d. a.marks_are (state_at ks j) q ((kept rg w).state_in j h) l;
  }

  over : {ks : List Known} {i X r : ℕ} → Walked g t ks i X r → Walked g u ks i X r
  over {i = i} {X = X} {r = r} w = walked_alike (alike_to w i X r) w

  byte_over : {ks : List Known} {i X r : ℕ} → Walked g t ks i X r → i < length ks → X < symbols g → byte_at u ks i X ≡ byte_at t ks i X
  byte_over {ks} {i} {X} w h x = a.steps_are (state_at ks i) X ((kept rg w).state_in i h) x

  pub walk_alike : {o : Outcome} → Walk g t o → Walk g u o
  walk_alike (all_right w all) = all_right (over w) (λ s h. all s (rw a.states_are at h))
  walk_alike (step_where_none w h x n ne) = step_where_none (over w) h x n (λ p. ne (sym (byte_over w h x) ∙ p))
  walk_alike (step_lacking w h x s e) = step_lacking (over w) h x s (byte_over w h x ∙ e)
  walk_alike (other_row j w h x s ne k n) =
      other_row j (over w) h x s (λ p. ne (sym (byte_over w h x) ∙ p)) (rw (byte_over w h x) k) n
  walk_alike (known_row j w h x s ne ns l e) =
      known_row j (over w) h x s (λ p. ne (sym (byte_over w h x) ∙ p)) (λ j l p. ns j l (p ∙ byte_over w h x)) l e
  walk_alike (mark_wrong {ks = ks} {i = i} {r = r} w h l ne) =
      mark_wrong (over w) h l (λ p. ne (sym (a.marks_are (state_at ks i) r ((kept rg w).state_in i h) l) ∙ p))
  walk_alike (never_reached s w h n f) = never_reached s (over w) (rw a.states_are h) n f
