-- What is read of the known states as they are kept is read of their list.
use Rattle.std.proofs.Common.{◌≡◌, ℕ, ◌+◌, ◌<◌, true, false, ◌≢◌, List, [], length, get_or, set, is_some, Some, None, Option, sym, ap, ◌∙◌, arith, below_more, Bool, MatchOption, MatchBool}
use Rattle.std.proofs.lemmas.Bool.{true≢false, false≢true}
use Rattle.std.proofs.lemmas.List.{get_or-map, length-map, get_or-set_same, get_or-set_other}
use Rattle.rows.specs.Rows.{items}
use Rattle.rows.specs.declared.row.Row.{Row}
use Rattle.table_format.specs.Walks.{Known, blank, state_at, row_at, KnownAt, NewState, NewRow}
use Rattle.table_format.specs.ItemSets.{Items}
use Rattle.tables.specs.declared.known.Known.{Known as Kept}
use Rattle.tables.specs.declared.known.KnownStates.{KnownStates}
use Rattle.tables.specs.Lists.{known_of, listed, row_in, Apart, RowsBy, KnowsRow}

abbrev unknown : Kept
unknown = record { state = 0; row = record { items = [] } }

module _ (ks : KnownStates) where
  pub len_is : length ks.list.items ≡ length (listed ks)
  unfolding listed
  len_is = sym (length-map ks.list.items known_of)

  module _ (i : ℕ) (h : i < length (listed ks)) where
    read : (d : Kept) → get_or (listed ks) i blank ≡ known_of (get_or ks.list.items i d)
    unfolding listed
    read d = get_or-map known_of ks.list.items i d blank (omega (arith, len_is))

    pub state_read : (d : Kept) → (get_or ks.list.items i d).state ≡ state_at (listed ks) i
    unfolding state_at
    state_read d = sym (ap (λ (x : Known). x.state) (read d))

    pub row_read : (d : Kept) → items (get_or ks.list.items i d).row ≡ row_at (listed ks) i
    unfolding row_at
    row_read d = sym (ap (λ (x : Known). x.row) (read d))

  -- What is found of the states and of the rows is known of the list.
  pub state_found : (s : ℕ) (o : Option ℕ)
      → MatchOption o ((j : ℕ) → j < length ks.list.items → (d : Kept) → (get_or ks.list.items j d).state ≢ s) (λ j. (j < length ks.list.items) × ((d : Kept) → (get_or ks.list.items j d).state ≡ s))
      → MatchOption o (NewState (listed ks) s) (λ j. KnownAt (listed ks) s j)
  state_found s None f = λ j l e. f j (omega (arith, len_is)) unknown (state_read j l unknown ∙ e)
  state_found s (Some j) f =
      let l : j < length (listed ks) = omega (arith, len_is, f.0) in
      record { within = l; is = sym (state_read j l unknown) ∙ f.1 unknown }

  pub row_found : (w : Items) (b : Bool)
      → MatchBool b ((j : ℕ) × (j < length ks.list.items) × ((d : Kept) → items (get_or ks.list.items j d).row ≡ w)) ((j : ℕ) → j < length ks.list.items → (d : Kept) → items (get_or ks.list.items j d).row ≢ w)
      → MatchBool b (KnowsRow (listed ks) w) (NewRow (listed ks) w)
  row_found w true f =
      let l : f.0 < length (listed ks) = omega (arith, len_is, f.1) in
      (f.0, l, sym (row_read f.0 l unknown) ∙ f.2 unknown)
  row_found w false f = λ j l e. f j (omega (arith, len_is)) unknown (row_read j l unknown ∙ e)

-- The rows of the known states, each put in the place of its state.
pub state_below : (ks : List Known) → Apart ks → (j s : ℕ) → j < length ks → s ≡ state_at ks j → s < 255
state_below ks a j s h e = omega (arith, a.below j h)

pub rows_more : (ks : List Known) (ws : List Row) (j s : ℕ) (w : Row) → Apart ks → length ws ≡ 255 → j < length ks
    → s ≡ state_at ks j → items w ≡ row_at ks j → RowsBy ks ws j → RowsBy ks (set ws s w) (j + 1)
unfolding row_in
rows_more ks ws j s w a n h e r f =
    below_more _ j
    (λ k l. let ne : state_at ks k ≢ s = other k l in ap items (get_or-set_other ws s (state_at ks k) w _ ne) ∙ f k l)
    (rw (← e) (ap items (get_or-set_same ws s w _ (omega (arith, a.below j h))) ∙ r))
  where
    other : (k : ℕ) → k < j → state_at ks k ≢ s
    other k l p = omega (arith, a.apart k j (omega arith) h (p ∙ e))

-- A place that is found, or not.
pub found : (o : Option ℕ) (P : Type 0) (Q : ℕ → Type 0) → MatchOption o P Q → is_some o ≡ true → (j : ℕ) × Q j
found (Some j) P Q q e = (j, q)
found None P Q p e = absurd (false≢true e)

pub not_found : (o : Option ℕ) (P : Type 0) (Q : ℕ → Type 0) → MatchOption o P Q → is_some o ≡ false → P
not_found (Some j) P Q q e = absurd (true≢false e)
not_found None P Q p e = p
