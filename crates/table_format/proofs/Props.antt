-- A table matches its rows in one way at most; and a source that is merely lawful is lawful.
use Rattle.std.proofs.Common.{◌≡◌, ℕ, ◌<◌, true, length, Some, None, Option, sym, refl, ◌∙◌, inl, inr}
use mathlib.Core.Bool.{Bool-set}
use mathlib.Core.HLevel.{⊥_prop, Π_prop, Π_set, is_prop→PathP}
use mathlib.Core.Logic.{↔_prop, ∥∥₁_prop, ∥∥₁_elim, ∥∥₁_map}
use native.Mathlib.Bridge.{le_prop}
use native.Mathlib.Nat.{ℕ_set}
use Rattle.parsing.specs.Grammar.{Grammar, rhs}
use Rattle.parsing.specs.Items.{Initial, Source, Step, Lawful}
use Rattle.parsing.proofs.States.{some_not_none}
use Rattle.table_format.specs.ItemSets.{Items, Completed, StepTo}
use Rattle.table_format.specs.Tables.{Table, Ranged, RightStep, Matches, wanted_mark}
use Rattle.table_format.proofs.Rows.{not_both}
use Rattle.table_format.proofs.Closures.{in_closure, initial?, step?}

pub items_set : IsSet Items
items_set = Π_set (λ r. Π_set (λ d. Bool-set))

pub completed_prop : (g : Grammar) (I : ℕ → ℕ → Type 0) (w : Items) → IsProp (Completed g I w)
completed_prop g I w = Π_prop (λ r. Π_prop (λ d. ↔_prop (Bool-set (w r d) true) ∥∥₁_prop))

pub step_to_prop : {g : Grammar} {v w : Items} {X : ℕ} → IsProp (StepTo g v X w)
step_to_prop {g} p q = λ i. record {
  moves = ∥∥₁_prop p.moves q.moves i;
  row = completed_prop g _ _ p.row q.row i;
}

pub ranged_prop : (g : Grammar) (t : Table) → IsProp (Ranged g t)
ranged_prop g t p q = λ i. record {
  some_states = le_prop p.some_states q.some_states i;
  few_states = le_prop p.few_states q.few_states i;
  step_in = λ s X h x n. le_prop (p.step_in s X h x n) (q.step_in s X h x n) i;
}

right_step_prop : (g : Grammar) (M : ℕ) (rows : ℕ → Items) (v : Items) (X b : ℕ) → IsProp (RightStep g M rows v X b)
right_step_prop g M rows v X b (inl p) (inl q) =
    λ i. inl (ℕ_set b 255 p.0 q.0 i, λ r d e n. ⊥_prop (p.1 r d e n) (q.1 r d e n) i)
right_step_prop g M rows v X b (inl p) (inr q) = absurd (not_both q.1 p.1)
right_step_prop g M rows v X b (inr p) (inl q) = absurd (not_both p.1 q.1)
right_step_prop g M rows v X b (inr p) (inr q) = λ i. inr (le_prop p.0 q.0 i, step_to_prop p.1 q.1 i)

-- The state that has a row is one only.
pub state_prop : {M : ℕ} {rows : ℕ → Items} → ((s u : ℕ) → s < M → u < M → rows s ≡ rows u → s ≡ u)
    → (w : Items) → IsProp ((s : ℕ) × (s < M) × (rows s ≡ w))
state_prop {M} {rows} apart w (s, h, e) (u, k, f) =
    let p = apart s u h k (e ∙ sym f) in
    λ i. (
      p i,
      is_prop→PathP (λ i. p i < M) (λ i. le_prop) h k i,
      is_prop→PathP (λ i. rows (p i) ≡ w) (λ i. items_set (rows (p i)) w) e f i,
    )

pub matches_prop : (g : Grammar) (t : Table) (rows : ℕ → Items) → IsProp (Matches g t rows)
matches_prop g t rows p q = λ i. record {
  item_sets = λ s h. ∥∥₁_prop (p.item_sets s h) (q.item_sets s h) i;
  one-to-one = λ s u hs hu e. ℕ_set s u (p.one-to-one s u hs hu e) (q.one-to-one s u hs hu e) i;
  onto = λ w x. state_prop p.one-to-one w (p.onto w x) (q.onto w x) i;
  zero_first = completed_prop g Initial (rows 0) p.zero_first q.zero_first i;
  steps = λ s X h x. right_step_prop g t.states rows (rows s) X (t.step s X) (p.steps s X h x) (q.steps s X h x) i;
  marks = λ s r h l. ℕ_set (t.mark s r) (wanted_mark g (rows s) r) (p.marks s r h l) (q.marks s r h l) i;
}

-- A closure may hold an item by several predictions, so there are several ways to be lawful; but one way can always be found.
pub lawful_merely : (src : Source) → ∥ Lawful src ∥₁ → Lawful src
lawful_merely src l = record {
  first_in = ∥∥₁_elim l le_prop (λ x. x.first_in);
  next_in = λ b X s h e. ∥∥₁_elim l le_prop (λ x. x.next_in b X s h e);
  first_row = λ r d. (
    λ i. in_closure src.grammar Initial initial? r d (∥∥₁_map l (λ x. (x.first_row r d).0 i)),
    λ c. ∥∥₁_elim l (Bool-set (src.has src.first r d) true) (λ x. (x.first_row r d).1 c),
  );
  next_row = λ b X s h e r d. (
    λ i. in_closure src.grammar (Step src b X) (step? src b X) r d (∥∥₁_map l (λ x. (x.next_row b X s h e r d).0 i)),
    λ c. ∥∥₁_elim l (Bool-set (src.has s r d) true) (λ x. (x.next_row b X s h e r d).1 c),
  );
  next_none = λ b X h. (
    λ e r d i n. ∥∥₁_elim l ⊥_prop (λ x. (x.next_none b X h).0 e r d i n),
    λ f. none b X (src.next b X) refl (λ s e. ∥∥₁_elim l ⊥_prop (λ x. some_not_none (sym e ∙ (x.next_none b X h).1 f))),
  );
  done_row = λ t r h k.
      ∥∥₁_elim l (Bool-set (src.done t r) (src.has t r (length (rhs src.grammar r)))) (λ x. x.done_row t r h k);
  rows_apart = λ s t h k e. ∥∥₁_elim l (ℕ_set s t) (λ x. x.rows_apart s t h k e);
}
  where
    none : (b X : ℕ) (o : Option ℕ) → src.next b X ≡ o → ((s : ℕ) → src.next b X ≡ Some s → ⊥) → src.next b X ≡ None
    none b X None e f = e
    none b X (Some s) e f = absurd (f s e)
