-- A table whose states match the LR(0) item sets is a lawful source, and no table answers anything outside the ranges.
use Rattle.std.proofs.Common.{◌≡◌, ℕ, ◌<◌, ◌≤◌, Bool, true, false, cond, ◌&&◌, eqb, ltb, ◌⊎◌, length, Some, None, sym, refl, ap, ◌∙◌, subst, inl, inr, ⊎_elim, arith}
use mathlib.Core.Path.{fun_ext}
use Rattle.std.proofs.lemmas.Bool.{and_parts, and_from, and_left, and_right, ltb-true, lt-ltb, le-ltb, true≢false}
use Rattle.parsing.specs.Grammar.{Grammar, rule_count, rhs}
use Rattle.parsing.specs.Items.{Initial, Lawful}
use Rattle.table_format.specs.ItemSets.{Items, symbols, NoStep, Moved, StepTo, RightSides}
use Rattle.table_format.specs.Tables.{Table, Matches, wholly, answered, source_of, Bounded}
use Rattle.table_format.proofs.Rows.{not_both}
use Rattle.table_format.proofs.Closures.{in_closure, initial?, moved?, step_moved, moved_step, closure_by}
use Rattle.table_format.proofs.Passing.{matches_ranged}

-- What an answer tells of its test.
answer_some : (c : Bool) (b s : ℕ) → answered c b ≡ Some s → (c ≡ true) × (b ≡ s)
answer_some true b s e = (refl, let z : b ≡ s = cc in z)
answer_some false b s e = let z : ◌≡◌ {A = ℕ} 0 1 = cc in absurd (omega arith)

answer_none : (c : Bool) (b : ℕ) → answered c b ≡ None → c ≡ false
answer_none true b e = let z : ◌≡◌ {A = ℕ} 0 1 = cc in absurd (omega arith)
answer_none false b e = refl

no_answer : (c : Bool) (b : ℕ) → ((s : ℕ) → answered c b ≡ Some s → ⊥) → answered c b ≡ None
no_answer true b f = absurd (f b refl)
no_answer false b f = refl

one_or_none : (b : Bool) → eqb (cond b 1 0) 1 ≡ b
one_or_none true = refl
one_or_none false = refl

-- The tests of `next` and of `done`.
abbrev steps? : Grammar → Table → ℕ → ℕ → Bool
steps? g t s X = ltb s t.states && (ltb X (symbols g) && ltb (t.step s X) 255)

abbrev marks? : Grammar → Table → ℕ → ℕ → Bool
marks? g t s r = ltb s t.states && (ltb r (rule_count g) && eqb (t.mark s r) 1)

pub bounded : (g : Grammar) (t : Table) (rows : ℕ → Items) → Bounded (source_of g t rows)
unfolding source_of
bounded g t rows = record {
  next_outside = λ s X o. ap (λ c. answered c (t.step s X)) (outside s X (symbols g) (ltb (t.step s X) 255) o);
  done_outside = λ s r o. outside s r (rule_count g) (eqb (t.mark s r) 1) o;
}
  where
    outside : (s x n : ℕ) (c : Bool) → (t.states ≤ s) ⊎ (n ≤ x) → (ltb s t.states && (ltb x n && c)) ≡ false
    outside s x n c (inl h) = and_left (ltb s t.states) (ltb x n && c) (le-ltb s t.states h)
    outside s x n c (inr h) = and_right (ltb s t.states) (ltb x n && c) (and_left (ltb x n) c (le-ltb x n h))

-- What the source has of a state is its row.
pub row_is : (g : Grammar) (t : Table) (rows : ℕ → Items) (s : ℕ) → s < t.states → (source_of g t rows).has s ≡ rows s
unfolding source_of
row_is g t rows s h = ap {B = Items} (λ (c : Bool) (r d : ℕ). c && rows s r d) (lt-ltb s t.states h)

module _ {g : Grammar} {t : Table} {rows : ℕ → Items} (rs : RightSides g) (few : t.states ≤ 255) (m : Matches g t rows) where
  -- A step that is answered is the step of the row.
  answered_step : (b X s : ℕ) → b < t.states → answered (steps? g t b X) (t.step b X) ≡ Some s → (s < t.states) × StepTo g (rows b) X (rows s)
  answered_step b X s h e =
      let (p, q) = answer_some (steps? g t b X) (t.step b X) s e in
      let (p0, p1) = and_parts (ltb b t.states) (ltb X (symbols g) && ltb (t.step b X) 255) p in
      let (p2, p3) = and_parts (ltb X (symbols g)) (ltb (t.step b X) 255) p1 in
      ⊎_elim
      (λ a. absurd (omega (arith, a.0, ltb-true (t.step b X) 255 p3)))
      (λ a. subst (λ u. (u < t.states) × StepTo g (rows b) X (rows u)) q a)
      (m.steps b X h (ltb-true X (symbols g) p2))

  -- A step that is not answered is none.
  unanswered : (b X : ℕ) → b < t.states → answered (steps? g t b X) (t.step b X) ≡ None → NoStep g (rows b) X
  unanswered b X h e r d k n =
      let x : X < symbols g = omega (arith, rs r d n.rule_in n.dot_in, n.symbol) in
      ⊎_elim
      (λ a. a.1 r d k n)
      (λ a.
      let l : t.step b X < 255 = omega (arith, a.0) in
      true≢false (sym (tested x l) ∙ answer_none (steps? g t b X) (t.step b X) e))
      (m.steps b X h x)
    where
      tested : X < symbols g → t.step b X < 255 → steps? g t b X ≡ true
      tested x l =
          and_from (ltb b t.states) (ltb X (symbols g) && ltb (t.step b X) 255) (lt-ltb b t.states h)
          (and_from (ltb X (symbols g)) (ltb (t.step b X) 255) (lt-ltb X (symbols g) x) (lt-ltb (t.step b X) 255 l))

  done_is : (s r : ℕ) → s < t.states → r < rule_count g → marks? g t s r ≡ wholly g (rows s) r
  done_is s r h q =
      rw (lt-ltb s t.states h, lt-ltb r (rule_count g) q, m.marks s r h q) (one_or_none (wholly g (rows s) r))

  item_is : (s r d : ℕ) → s < t.states → (ltb s t.states && rows s r d) ≡ rows s r d
  item_is s r d h = ap (λ (c : Bool). c && rows s r d) (lt-ltb s t.states h)

  zero_in : 0 < t.states
  zero_in = omega (arith, (matches_ranged few m).some_states)

  pub lawful : Lawful (source_of g t rows)
  unfolding source_of
  lawful = record {
    first_in = zero_in;
    next_in = λ b X s h e. (answered_step b X s h e).0;
    first_row = λ r d. (
      λ k. in_closure g Initial initial? r d ((m.zero_first r d).0 (sym (item_is 0 r d zero_in) ∙ k)),
      λ c. item_is 0 r d zero_in ∙ (m.zero_first r d).1 ∣ c ∣₁,
    );
    next_row = λ b X s h e r d.
        let (l, st) = answered_step b X s h e in
        let from = row_is g t rows b h in (
          λ k.
              closure_by (λ q c x. moved_step (subst (λ (w : Items). Moved g w X q c) (sym from) x))
              (in_closure g (Moved g (rows b) X) (moved? g (rows b) X) r d ((st.row r d).0 (sym (item_is s r d l) ∙ k))),
          λ c.
              item_is s r d l
              ∙ (st.row r d).1 ∣ closure_by (λ q c x. subst (λ (w : Items). Moved g w X q c) from (step_moved x)) c ∣₁,
        );
    next_none = λ b X h. (
      λ e r d k n. unanswered b X h e r d (sym (item_is b r d h) ∙ k) n,
      λ n.
          no_answer (steps? g t b X) (t.step b X)
          (λ s e. not_both (answered_step b X s h e).1 (λ r d k q. n r d (item_is b r d h ∙ k) q)),
    );
    done_row = λ s r h q. done_is s r h q ∙ sym (item_is s r (length (rhs g r)) h);
    rows_apart = λ s u hs hu e.
        m.one-to-one s u hs hu (fun_ext (λ r. fun_ext (λ d. sym (item_is s r d hs) ∙ (e r d ∙ item_is u r d hu))));
  }
