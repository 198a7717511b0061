-- Two tables whose states match the LR(0) item sets with the same rows are one source of states.
use Rattle.std.proofs.Common.{◌≡◌, ℕ, suc, ◌<◌, ◌≤◌, Bool, false, ◌&&◌, eqb, ltb, ◌⊎◌, ◌≢◌, List, [], ◌∷◌, ◌++◌, length, sym, refl, ap, ◌∙◌, subst, inl, inr, ⊎_elim, arith}
use mathlib.Core.Path.{fun_ext}
use mathlib.Core.Logic.{∥∥₁_elim}
use Rattle.std.proofs.lemmas.Bool.{le-ltb, cases_lt}
use Rattle.parsing.specs.Grammar.{Grammar, rule_count}
use Rattle.parsing.specs.Items.{Source}
use Rattle.table_format.specs.ItemSets.{Items, symbols, NoStep, StepTo, ItemSet, first, step, RightSides}
use Rattle.table_format.specs.Tables.{Table, Matches, RightStep, Alike, wanted_mark, answered, source_of}
use Rattle.table_format.specs.Walks.{Known, row_at, NewRow, Walked, begin, none, met, new, mark, turn}
use Rattle.table_format.proofs.Rows.{completed_one, step_one, not_both, step_symbol}
use Rattle.table_format.proofs.KnownStates.{length_more, row_before, row_last, row_only, place}
use Rattle.table_format.proofs.Props.{items_set}
use Rattle.table_format.proofs.Sources.{row_is, bounded}

-- The rows with which the states of a table match are the same for each state.
module _ {g : Grammar} {t : Table} {rows vs : ℕ → Items} (rs : RightSides g) (m : Matches g t rows) (n : Matches g t vs) where
  same_row : {w : Items} → ItemSet g w → (s : ℕ) → s < t.states → rows s ≡ w → vs s ≡ w
  same_row (first {w = w} f) s h e =
      let z : 0 ≡ s = m.one-to-one 0 s (omega arith) h (completed_one {g = g} m.zero_first f ∙ sym e) in
      subst (λ u. vs u ≡ w) z (completed_one {g = g} n.zero_first f)
  same_row (step {v = v} {w = w} X i st) s h e =
      let (u, l, p) = m.onto v i in
      let q = same_row i u l p in
      ⊎_elim
      (λ a. absurd (not_both st (subst (λ x. NoStep g x X) p a.1)))
      (λ a.
      let f = step_one (subst (λ x. StepTo g x X (rows (t.step u X))) p a.1) st in
      let k : t.step u X ≡ s = m.one-to-one (t.step u X) s a.0 h (f ∙ sym e) in
      ⊎_elim
      (λ c. absurd (not_both st (subst (λ x. NoStep g x X) q c.1)))
      (λ c. subst (λ y. vs y ≡ w) k (step_one (subst (λ x. StepTo g x X (vs (t.step u X))) q c.1) st))
      (n.steps u X l (step_symbol rs st)))
      (m.steps u X l (step_symbol rs st))

  pub rows_one : (s : ℕ) → s < t.states → rows s ≡ vs s
  rows_one s h = ∥∥₁_elim (m.item_sets s h) (items_set (rows s) (vs s)) (λ i. sym (same_row i s h refl))

-- Tables that agree, with the same rows of their states, are one source.
module _ {g : Grammar} {t u : Table} {rows vs : ℕ → Items} (a : Alike g t u) (same : (s : ℕ) → s < u.states → rows s ≡ vs s) where
  past : {s : ℕ} → u.states ≤ s → t.states ≤ s
  past l = omega (arith, a.states_are)

  next_same : (s X : ℕ) → (source_of g t rows).next s X ≡ (source_of g u vs).next s X
  unfolding source_of
  next_same s X =
      elim (cases_lt s u.states) [
        | inl h ↦
            elim (cases_lt X (symbols g)) [
              | inl x ↦
                  ap (λ (n : ℕ). answered (ltb s n && (ltb X (symbols g) && ltb (t.step s X) 255)) (t.step s X)) a.states_are
                  ∙ ap (λ (b : ℕ). answered (ltb s u.states && (ltb X (symbols g) && ltb b 255)) b) (a.steps_are s X h x)
              | inr l ↦ (bounded g t rows).next_outside s X (inr l) ∙ sym ((bounded g u vs).next_outside s X (inr l))
            ]
        | inr l ↦ (bounded g t rows).next_outside s X (inl (past l)) ∙ sym ((bounded g u vs).next_outside s X (inl l))
      ]

  done_same : (s r : ℕ) → (source_of g t rows).done s r ≡ (source_of g u vs).done s r
  unfolding source_of
  done_same s r =
      elim (cases_lt s u.states) [
        | inl h ↦
            elim (cases_lt r (rule_count g)) [
              | inl x ↦
                  ap (λ (n : ℕ). ltb s n && (ltb r (rule_count g) && eqb (t.mark s r) 1)) a.states_are
                  ∙ ap (λ (b : ℕ). ltb s u.states && (ltb r (rule_count g) && eqb b 1)) (a.marks_are s r h x)
              | inr l ↦ (bounded g t rows).done_outside s r (inr l) ∙ sym ((bounded g u vs).done_outside s r (inr l))
            ]
        | inr l ↦ (bounded g t rows).done_outside s r (inl (past l)) ∙ sym ((bounded g u vs).done_outside s r (inl l))
      ]

  has_same : (s : ℕ) → (source_of g t rows).has s ≡ (source_of g u vs).has s
  unfolding source_of
  has_same s =
      elim (cases_lt s u.states) [
        | inl h ↦ row_is g t rows s (omega (arith, a.states_are)) ∙ same s h ∙ sym (row_is g u vs s h)
        | inr l ↦
            ap {B = Items} (λ (c : Bool) (r d : ℕ). c && rows s r d) (le-ltb s t.states (past l))
            ∙ sym (ap {B = Items} (λ (c : Bool) (r d : ℕ). c && vs s r d) (le-ltb s u.states l))
      ]

  pub source_same : source_of g t rows ≡ source_of g u vs
  unfolding source_of
  source_same = λ i. record {
    grammar = g;
    states = a.states_are i;
    first = 0;
    next = fun_ext (λ s. fun_ext (λ X. next_same s X)) i;
    has = fun_ext has_same i;
    done = fun_ext (λ s. fun_ext (λ r. done_same s r)) i;
  }

-- Tables whose states match with the same rows agree.
module _ {g : Grammar} {t u : Table} {rows vs : ℕ → Items} (m : Matches g t rows) (n : Matches g u vs) (count : t.states ≡ u.states)
    (same : (s : ℕ) → s < u.states → rows s ≡ vs s) where
  step_same : (s X : ℕ) → s < u.states → X < symbols g → t.step s X ≡ u.step s X
  step_same s X h x =
      let l : s < t.states = omega arith in
      ⊎_elim
      (λ a. ⊎_elim (λ c. a.0 ∙ sym c.0) (λ c. absurd (not_both c.1 (subst (λ w. NoStep g w X) (same s h) a.1))) (n.steps s X h x))
      (λ a.
      ⊎_elim
      (λ c. absurd (not_both (subst (λ w. StepTo g w X (rows (t.step s X))) (same s h) a.1) c.1))
      (λ c.
      let e = step_one (subst (λ w. StepTo g w X (rows (t.step s X))) (same s h) a.1) c.1 in
      m.one-to-one (t.step s X) (u.step s X) a.0 (omega (arith, c.0)) (e ∙ sym (same (u.step s X) c.0)))
      (n.steps s X h x))
      (m.steps s X l x)

  pub matched_alike : Alike g t u
  matched_alike = record {
    states_are = count;
    steps_are = step_same;
    marks_are = λ s r h l.
        m.marks s r (omega arith) l ∙ ap (λ (w : Items). wanted_mark g w r) (same s h) ∙ sym (n.marks s r h l);
  }

  pub matched_same : source_of g t rows ≡ source_of g u vs
  matched_same = source_same matched_alike same

pub source_one : {g : Grammar} {t : Table} {rows vs : ℕ → Items} → RightSides g → Matches g t rows → Matches g t vs
    → source_of g t rows ≡ source_of g t vs
source_one rs m n = matched_same m n refl (rows_one rs m n)

-- Walks over two tables know the same rows in the same places, as far as they have come.
pub record SameRows (ks ls : List Known) : Type 0 where
  pub count : length ks ≡ length ls
  pub rows : (j : ℕ) → j < length ks → row_at ks j ≡ row_at ls j

same_only : (k l : Known) → k.row ≡ l.row → SameRows (k ∷ []) (l ∷ [])
same_only k l e = record {
  count = refl;
  rows = λ j h. let z : j ≡ 0 = omega arith in rw (z, row_only k, row_only l) e;
}

same_more : (ks ls : List Known) (k l : Known) → SameRows ks ls → k.row ≡ l.row → SameRows (ks ++ k ∷ []) (ls ++ l ∷ [])
same_more ks ls k l s e = record {
  count = omega (arith, length_more ks k, length_more ls l, s.count);
  rows = λ j h.
      elim (place ks k j h) [
        | inl b ↦ row_before ks k j b ∙ s.rows j b ∙ sym (row_before ls l j (omega (arith, s.count)))
        | inr z ↦
            ap (row_at (ks ++ k ∷ [])) z ∙ row_last ks k ∙ e ∙ sym (row_last ls l)
            ∙ sym (ap (row_at (ls ++ l ∷ [])) (z ∙ s.count))
      ];
}

module _ {ks ls : List Known} (s : SameRows ks ls) {i j X Y : ℕ} (p : i ≡ j) (q : X ≡ Y) (h : i < length ks) where
  row_here : row_at ks i ≡ row_at ls j
  row_here = s.rows i h ∙ ap (row_at ls) p

  step_here : {g : Grammar} {w : Items} → StepTo g (row_at ls j) Y w → StepTo g (row_at ks i) X w
  step_here {g} {w} st = subst (λ v. StepTo g v X w) (sym row_here) (subst (λ y. StepTo g (row_at ls j) y w) (sym q) st)

  no_step_here : {g : Grammar} → NoStep g (row_at ls j) Y → NoStep g (row_at ks i) X
  no_step_here {g} n = subst (λ v. NoStep g v X) (sym row_here) (subst (λ y. NoStep g (row_at ls j) y) (sym q) n)

pub walked_same : {g : Grammar} {t u : Table} {ks ls : List Known} {i j X Y r d : ℕ} → Walked g t ks i X r → Walked g u ls j Y d
    → i ≡ j → X ≡ Y → r ≡ d → SameRows ks ls
walked_same {g} (begin f) (begin k) p q e = same_only _ _ (completed_one {g = g} f k)
walked_same (none w h x n b) (none v k y m c) p q e = walked_same w v p (omega arith) refl
walked_same (none w h x n b) (met a v k y st c z) p q e =
    let s = walked_same w v p (omega arith) refl in
    absurd (not_both (step_here s p (omega arith) h st) n)
walked_same (none w h x n b) (new v k y st c ns nr) p q e =
    let s = walked_same w v p (omega arith) refl in
    absurd (not_both (step_here s p (omega arith) h st) n)
walked_same (met a w h x st c z) (none v k y n b) p q e =
    let s = walked_same w v p (omega arith) refl in
    absurd (not_both st (no_step_here s p (omega arith) h n))
walked_same (met a w h x st c z) (met b v k y su d f) p q e = walked_same w v p (omega arith) refl
walked_same (met a w h x st c z) (new v k y su d ns nr) p q e =
    let s = walked_same w v p (omega arith) refl in
    absurd (nr a (omega (arith, z.within, s.count)) (sym (s.rows a z.within) ∙ step_one st (step_here s p (omega arith) h su)))
walked_same (new w h x st c ns nr) (none v k y n b) p q e =
    let s = walked_same w v p (omega arith) refl in
    absurd (not_both st (no_step_here s p (omega arith) h n))
walked_same (new w h x st c ns nr) (met b v k y su d f) p q e =
    let s = walked_same w v p (omega arith) refl in
    absurd (nr b (omega (arith, f.within, s.count))
    (s.rows b (omega (arith, f.within, s.count)) ∙ sym (step_one st (step_here s p (omega arith) h su))))
walked_same (new w h x st c ns nr) (new v k y su d nt ne) p q e =
    let s = walked_same w v p (omega arith) refl in
    same_more _ _ _ _ s (step_one st (step_here s p (omega arith) h su))
walked_same (mark w h l b) (mark v k m c) p q e = walked_same w v p q (omega arith)
walked_same (turn w h) (turn v k) p q e = walked_same w v (omega arith) refl refl
walked_same w v p q e = absurd (omega (arith, p, q, e))
