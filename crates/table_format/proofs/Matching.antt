-- A walk that passes matches the states with the LR(0) item sets.
use Rattle.std.proofs.Common.{◌≡◌, ℕ, ◌<◌, ◌⊎◌, List, length, sym, refl, ap, ◌∙◌, subst, inl, inr, ⊎_elim}
use Rattle.parsing.specs.Grammar.{Grammar}
use Rattle.table_format.specs.ItemSets.{Items, symbols, NoStep, StepTo, ItemSet, first, step, RightSides}
use Rattle.table_format.specs.Tables.{Table, Ranged, RightStep, Matches, wanted_mark}
use Rattle.table_format.specs.Walks.{Known, blank, state_at, row_at, byte_at, KnownAt, Knows, NewState, Walked}
use Rattle.table_format.specs.Walks.{passes, Walk, all_right}
use Rattle.table_format.proofs.Rows.{completed_one, step_one, not_both, step_symbol}
use Rattle.table_format.proofs.KnownStates.{knows?}
use Rattle.table_format.proofs.Progress.{kept, good, marked}

module _ {g : Grammar} {t : Table} (rs : RightSides g) (rg : Ranged g t) {ks : List Known} (w : Walked g t ks (length ks) 0 0) where
  -- A walk that has tried every known state has met every item set.
  pub reached : {v : Items} → ItemSet g v → (j : ℕ) × (j < length ks) × (row_at ks j ≡ v)
  reached (first f) = (0, (kept rg w).some, completed_one {g = g} (kept rg w).first_row f)
  reached (step {v = u} X i s) =
      let (j, h, e) = reached i in
      ⊎_elim
      (λ a. absurd (not_both s (subst (λ x. NoStep g x X) e a.1)))
      (λ a.
      let (m, b, st) = a in
      (m, b.within, step_one (subst (λ x. StepTo g x X (row_at ks m)) e st) s))
      (good w j X h (step_symbol rs s) (inl h))

  -- Where every state is known, any rows that are those of the known states are a matching.
  module _ (all : (s : ℕ) → s < t.states → Knows ks s) (rows : ℕ → Items)
      (rows_at : (j : ℕ) → j < length ks → rows (state_at ks j) ≡ row_at ks j) where
    rows_is : (s : ℕ) → s < t.states → (j : ℕ) × KnownAt ks s j × (rows s ≡ row_at ks j)
    rows_is s h =
        let (j, a) = all s h in
        (j, a, ap rows (sym a.is) ∙ rows_at j a.within)

    step_at : (j X : ℕ) → j < length ks → X < symbols g → RightStep g t.states rows (rows (state_at ks j)) X (byte_at t ks j X)
    step_at j X h x =
        ⊎_elim
        (λ a. inl (a.0, rw (rows_at j h) a.1))
        (λ a.
        let (m, b, st) = a in
        let to : row_at ks m ≡ rows (byte_at t ks j X) = sym (rows_at m b.within) ∙ ap rows b.is in
        inr (rw b.is at ((kept rg w).state_in m b.within), rw (rows_at j h) (subst (StepTo g (row_at ks j) X) to st)))
        (good w j X h x (inl h))

    pub matching : Matches g t rows
    matching = record {
      item_sets = λ s h. let (j, a, e) = rows_is s h in ∣ rw e ((kept rg w).item_set j a.within) ∣₁;
      one-to-one = λ s u hs hu e.
          let (j, a, p) = rows_is s hs in
          let (m, b, q) = rows_is u hu in
          sym a.is ∙ ap (state_at ks) ((kept rg w).rows_apart j m a.within b.within (sym p ∙ e ∙ q)) ∙ b.is;
      onto = λ v i.
          let (j, h, e) = reached i in
          (state_at ks j, (kept rg w).state_in j h, rows_at j h ∙ e);
      zero_first = rw (← (kept rg w).zero, rows_at 0 (kept rg w).some) (kept rg w).first_row;
      steps = λ s X h x.
          let (j, a, e) = rows_is s h in
          subst (λ u. RightStep g t.states rows (rows u) X (t.step u X)) a.is (step_at j X a.within x);
      marks = λ s r h q.
          let (j, a, e) = rows_is s h in
          ap (λ u. t.mark u r) (sym a.is) ∙ marked w j r a.within q (inl a.within) ∙ ap (λ v. wanted_mark g v r) (sym e);
    }

-- The row of the known state s.
abbrev picked : (ks : List Known) (s : ℕ) → Knows ks s ⊎ NewState ks s → Items
picked ks s (inl x) = row_at ks x.0
picked ks s (inr n) = blank.row

abbrev pub known_row_of : List Known → ℕ → Items
known_row_of ks s = picked ks s (knows? ks s)

pub known_row_at : {g : Grammar} {t : Table} {ks : List Known} {i X r : ℕ} → Ranged g t → Walked g t ks i X r
    → (j : ℕ) → j < length ks → known_row_of ks (state_at ks j) ≡ row_at ks j
known_row_at {ks = ks} rg w j h = go (knows? ks (state_at ks j))
  where
    go : (d : Knows ks (state_at ks j) ⊎ NewState ks (state_at ks j)) → picked ks (state_at ks j) d ≡ row_at ks j
    go (inl x) = ap (row_at ks) ((kept rg w).states_apart x.0 j x.1.within h x.1.is)
    go (inr n) = absurd (n j h refl)

pub passed_matches : {g : Grammar} {t : Table} → RightSides g → Ranged g t → Walk g t passes → (rows : ℕ → Items) × Matches g t rows
passed_matches rs rg (all_right {ks = ks} w all) = (known_row_of ks, matching rs rg w all (known_row_of ks) (known_row_at rg w))
