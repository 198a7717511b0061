-- What a walk has shown where it has come to.
--   Kept g t ks         the known states are apart, their rows are item sets and apart, and state 0 with the first row is the first
--   Tried i x j y       the try y of the state in place j came before the try x of the state in place i
--   Good g t ks j X     the step byte of the state in place j by X is right among the known states
--   Marked g t ks j q   the mark of the rule q in the state in place j is the one wanted
use Rattle.std.proofs.Common.{◌≡◌, ℕ, suc, ◌<◌, ◌≤◌, ◌≢◌, ◌⊎◌, List, [], ◌∷◌, ◌++◌, length, sym, ap, ◌∙◌, subst, inl, inr, ⊎_elim, arith}
use Rattle.std.proofs.lemmas.Bool.{cases_eq}
use Rattle.parsing.specs.Grammar.{Grammar, rule_count}
use Rattle.table_format.specs.ItemSets.{Items, symbols, FirstRow, NoStep, StepTo, ItemSet, first, step}
use Rattle.table_format.specs.Tables.{Table, Ranged, wanted_mark}
use Rattle.table_format.specs.Walks.{Known, state_at, row_at, byte_at, KnownAt, NewState, NewRow}
use Rattle.table_format.specs.Walks.{Walked, begin, none, met, new, mark, turn}
use Rattle.table_format.proofs.KnownStates.{length_more, state_before, row_before, state_last, row_last, place, each, known_before}
use Rattle.table_format.proofs.KnownStates.{state_only, row_only, each_only}
use Rattle.table_format.proofs.Pigeons.{pigeons}

pub record Kept (g : Grammar) (t : Table) (ks : List Known) : Type 0 where
  pub some : 0 < length ks
  pub zero : state_at ks 0 ≡ 0
  pub first_row : FirstRow g (row_at ks 0)
  pub state_in : (j : ℕ) → j < length ks → state_at ks j < t.states
  pub item_set : (j : ℕ) → j < length ks → ItemSet g (row_at ks j)
  pub states_apart : (j k : ℕ) → j < length ks → k < length ks → state_at ks j ≡ state_at ks k → j ≡ k
  pub rows_apart : (j k : ℕ) → j < length ks → k < length ks → row_at ks j ≡ row_at ks k → j ≡ k

-- One more state.
module _ {g : Grammar} {t : Table} (ks : List Known) (k : Known) (old : Kept g t ks)
    (in_range : k.state < t.states) (set : ItemSet g k.row) (new_state : NewState ks k.state) (new_row : NewRow ks k.row) where
  -- A value of places stays apart when the new one is none of the old ones.
  apart : {A : Type 0} (f : List Known → ℕ → A) (v : A)
      → ((j : ℕ) → j < length ks → f (ks ++ k ∷ []) j ≡ f ks j) → f (ks ++ k ∷ []) (length ks) ≡ v
      → ((j : ℕ) → j < length ks → f ks j ≢ v)
      → ((i j : ℕ) → i < length ks → j < length ks → f ks i ≡ f ks j → i ≡ j)
      → (i j : ℕ) → i < length (ks ++ k ∷ []) → j < length (ks ++ k ∷ [])
      → f (ks ++ k ∷ []) i ≡ f (ks ++ k ∷ []) j → i ≡ j
  apart f v before last fresh sep i j hi hj e =
      elim (place ks k i hi) [
        | inl a ↦
            elim (place ks k j hj) [
              | inl b ↦ sep i j a b (sym (before i a) ∙ e ∙ before j b)
              | inr b ↦ absurd (fresh i a (sym (before i a) ∙ e ∙ ap (f (ks ++ k ∷ [])) b ∙ last))
            ]
        | inr a ↦
            elim (place ks k j hj) [
              | inl b ↦ absurd (fresh j b (sym (before j b) ∙ sym e ∙ ap (f (ks ++ k ∷ [])) a ∙ last))
              | inr b ↦ a ∙ sym b
            ]
      ]

  kept_more : Kept g t (ks ++ k ∷ [])
  kept_more = record {
    some = omega (arith, length_more ks k);
    zero = state_before ks k 0 old.some ∙ old.zero;
    first_row = rw (row_before ks k 0 old.some) old.first_row;
    state_in = each ks k (λ s w. s < t.states) old.state_in in_range;
    item_set = each ks k (λ s w. ItemSet g w) old.item_set set;
    states_apart = apart state_at k.state (state_before ks k) (state_last ks k) new_state old.states_apart;
    rows_apart = apart row_at k.row (row_before ks k) (row_last ks k) new_row old.rows_apart;
  }

kept_first : {g : Grammar} {t : Table} {w : Items} → Ranged g t → FirstRow g w → Kept g t (record { state = 0; row = w } ∷ [])
kept_first {g} {t} {w} rg f =
    let k : Known = record { state = 0; row = w } in
    record {
      some = omega arith;
      zero = state_only k;
      first_row = rw (row_only k) f;
      state_in = each_only (λ s w. s < t.states) k rg.some_states;
      item_set = each_only (λ s w. ItemSet g w) k (first f);
      states_apart = λ i j p q e. omega arith;
      rows_apart = λ i j p q e. omega arith;
    }

pub kept : {g : Grammar} {t : Table} {ks : List Known} {i X r : ℕ} → Ranged g t → Walked g t ks i X r → Kept g t ks
kept rg (begin f) = kept_first rg f
kept rg (none w h x n e) = kept rg w
kept rg (met j w h x s ne a) = kept rg w
kept {g} {t} rg (new {ks = ks} {i = i} {X = X} {w = v} w h x s ne ns nr) =
    let o = kept rg w in
    kept_more ks (record { state = byte_at t ks i X; row = v }) o
    (rg.step_in (state_at ks i) X (o.state_in i h) x ne) (step X (o.item_set i h) s) ns nr
kept rg (mark w h r e) = kept rg w
kept rg (turn w h) = kept rg w

-- So there are at most as many known states as states.
pub known_few : {g : Grammar} {t : Table} {ks : List Known} {i X r : ℕ} → Ranged g t → Walked g t ks i X r → length ks ≤ t.states
known_few {g} {t} {ks} rg w =
    let k = kept rg w in
    pigeons (length ks) t.states (λ j h. state_at ks j) k.state_in k.states_apart

abbrev pub Tried : ℕ → ℕ → ℕ → ℕ → Type 0
Tried i x j y = (j < i) ⊎ ((j ≡ i) × (y < x))

tried_none : (j y : ℕ) → Tried 0 0 j y → ⊥
tried_none j y (inl h) = omega arith
tried_none j y (inr h) = let k = h.1 in omega arith

tried_more : (i x j y : ℕ) → Tried i (suc x) j y → Tried i x j y ⊎ ((j ≡ i) × (y ≡ x))
tried_more i x j y (inl h) = inl (inl h)
tried_more i x j y (inr h) =
    let k = h.1 in
    elim (cases_eq y x) [ inl e ↦ inr (h.0, e) | inr ne ↦ inl (inr (h.0, omega arith)) ]

tried_turn : (i n j y : ℕ) → y < n → Tried (suc i) 0 j y → Tried i n j y
tried_turn i n j y l (inl h) = elim (cases_eq j i) [ inl e ↦ inr (e, l) | inr ne ↦ inl (omega arith) ]
tried_turn i n j y l (inr h) = let k = h.1 in absurd (omega arith)

abbrev pub Good : Grammar → Table → List Known → ℕ → ℕ → Type 0
Good g t ks j X =
    ((byte_at t ks j X ≡ 255) × NoStep g (row_at ks j) X)
    ⊎ ((k : ℕ) × KnownAt ks (byte_at t ks j X) k × StepTo g (row_at ks j) X (row_at ks k))

-- It stays right when one more state becomes known.
good_before : (g : Grammar) (t : Table) (ks : List Known) (k : Known) (j X : ℕ) → j < length ks → Good g t ks j X → Good g t (ks ++ k ∷ []) j X
good_before g t ks k j X h (inl a) = inl (rw (byte_at, state_before ks k j h) a.0, rw (row_before ks k j h) a.1)
good_before g t ks k j X h (inr (m, b, s)) =
    inr (
      m,
      rw (byte_at, state_before ks k j h) (known_before ks k b),
      rw (row_before ks k j h, row_before ks k m b.within) s,
    )

good_at : (g : Grammar) (t : Table) (ks : List Known) (i X j y : ℕ) → Good g t ks i X → j ≡ i → y ≡ X → Good g t ks j y
good_at g t ks i X j y d p q =
    let P : ℕ → Type 0 = λ a. Good g t ks a y in
    let Q : ℕ → Type 0 = λ b. Good g t ks i b in
    subst P (sym p) (subst Q (sym q) d)

pub good : {g : Grammar} {t : Table} {ks : List Known} {i X r : ℕ} → Walked g t ks i X r
    → (j y : ℕ) → j < length ks → y < symbols g → Tried i X j y → Good g t ks j y
good (begin f) j y hj hy d = absurd (tried_none j y d)
good {g} {t} (none {ks = ks} {i = i} {X = X} w h x n e) j y hj hy d =
    ⊎_elim (λ b. good w j y hj hy b) (λ b. good_at g t ks i X j y (inl (e, n)) b.0 b.1) (tried_more i X j y d)
good {g} {t} (met {ks = ks} {i = i} {X = X} m w h x s ne a) j y hj hy d =
    ⊎_elim (λ b. good w j y hj hy b) (λ b. good_at g t ks i X j y (inr (m, a, s)) b.0 b.1) (tried_more i X j y d)
good {g} {t} (new {ks = ks} {i = i} {X = X} {w = v} w h x s ne ns nr) j y hj hy d =
    ⊎_elim
    (λ b. ⊎_elim
    (λ l. good_before g t ks k j y l (good w j y l hy b))
    (λ e. absurd (late j e b))
    (place ks k j hj))
    (λ b. good_at g t (ks ++ k ∷ []) i X j y (inr (length ks, last, rw (row_before ks k i h, row_last ks k) s)) b.0 b.1)
    (tried_more i X j y d)
  where
    k : Known
    k = record { state = byte_at t ks i X; row = v }

    last : KnownAt (ks ++ k ∷ []) (byte_at t (ks ++ k ∷ []) i X) (length ks)
    last = record { within = omega (arith, length_more ks k); is = rw (byte_at, state_before ks k i h) (state_last ks k) }

    late : (j : ℕ) → j ≡ length ks → Tried i X j y → ⊥
    late j e (inl a) = omega arith
    late j e (inr a) = let b = a.0 in omega arith
good (mark w h l e) j y hj hy d = good w j y hj hy d
good {g} (turn {ks = ks} {i = i} w h) j y hj hy d = good w j y hj hy (tried_turn i (symbols g) j y hy d)

abbrev pub Marked : Grammar → Table → List Known → ℕ → ℕ → Type 0
Marked g t ks j q = t.mark (state_at ks j) q ≡ wanted_mark g (row_at ks j) q

pub marked : {g : Grammar} {t : Table} {ks : List Known} {i X r : ℕ} → Walked g t ks i X r
    → (j q : ℕ) → j < length ks → q < rule_count g → Tried i r j q → Marked g t ks j q
marked (begin f) j q hj hq d = absurd (tried_none j q d)
marked (none w h x n e) j q hj hq d = marked w j q hj hq d
marked (met m w h x s ne a) j q hj hq d = marked w j q hj hq d
marked {g} {t} (new {ks = ks} {i = i} {X = X} {w = v} w h x s ne ns nr) j q hj hq d =
    ⊎_elim
    (λ l. rw (state_before ks k j l, row_before ks k j l) (marked w j q l hq d))
    (λ e. absurd (late e d))
    (place ks k j hj)
  where
    k : Known
    k = record { state = byte_at t ks i X; row = v }

    late : j ≡ length ks → Tried i 0 j q → ⊥
    late e (inl a) = omega arith
    late e (inr a) = let b = a.1 in omega arith
marked {g} {t} (mark {ks = ks} {i = i} {r = r} w h l e) j q hj hq d =
    ⊎_elim (λ b. marked w j q hj hq b)
    (λ b.
    let P : ℕ → Type 0 = λ a. Marked g t ks a q in
    let Q : ℕ → Type 0 = λ c. Marked g t ks i c in
    subst P (sym b.0) (subst Q (sym b.1) e))
    (tried_more i r j q d)
marked {g} (turn {ks = ks} {i = i} w h) j q hj hq d = marked w j q hj hq (tried_turn i (rule_count g) j q hq d)
