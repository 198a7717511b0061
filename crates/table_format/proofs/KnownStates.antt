-- The known states when one more becomes known, and whether a state is known.
use Rattle.std.proofs.Common.{◌≡◌, ℕ, suc, ◌<◌, ◌⊎◌, List, [], ◌∷◌, ◌++◌, length, refl, ap, ◌∙◌, inl, inr, arith}
use native.Mathlib.Decide.{ℕ_discrete}
use Rattle.std.proofs.lemmas.List.{get_or_append_left, get_or_push, length-append}
use Rattle.std.proofs.lemmas.Bool.{cases_eq}
use Rattle.parsing.proofs.Search.{some_below?}
use Rattle.table_format.specs.ItemSets.{Items}
use Rattle.table_format.specs.Walks.{Known, blank, state_at, row_at, KnownAt, Knows, NewState}

module _ (ks : List Known) (k : Known) where
  pub length_more : length (ks ++ k ∷ []) ≡ suc (length ks)
  length_more = simp length-append (omega arith)

  pub state_before : (j : ℕ) → j < length ks → state_at (ks ++ k ∷ []) j ≡ state_at ks j
  unfolding state_at
  state_before j h = ap (λ x. x.state) (get_or_append_left ks (k ∷ []) blank j h)

  pub row_before : (j : ℕ) → j < length ks → row_at (ks ++ k ∷ []) j ≡ row_at ks j
  unfolding row_at
  row_before j h = ap (λ x. x.row) (get_or_append_left ks (k ∷ []) blank j h)

  pub state_last : state_at (ks ++ k ∷ []) (length ks) ≡ k.state
  unfolding state_at
  state_last = ap (λ x. x.state) (get_or_push ks k blank (length ks) refl)

  pub row_last : row_at (ks ++ k ∷ []) (length ks) ≡ k.row
  unfolding row_at
  row_last = ap (λ x. x.row) (get_or_push ks k blank (length ks) refl)

  -- A place of the longer list is one of the shorter list, or the last.
  pub place : (j : ℕ) → j < length (ks ++ k ∷ []) → (j < length ks) ⊎ (j ≡ length ks)
  place j h = elim (cases_eq j (length ks)) [ inl e ↦ inr e | inr n ↦ inl (omega (arith, length_more)) ]

  -- What holds of each known state and of one more holds of all of them.
  pub each : (P : ℕ → Items → Type 0) → ((j : ℕ) → j < length ks → P (state_at ks j) (row_at ks j)) → P k.state k.row
      → (j : ℕ) → j < length (ks ++ k ∷ []) → P (state_at (ks ++ k ∷ []) j) (row_at (ks ++ k ∷ []) j)
  each P before last j h =
      elim (place j h) [
        | inl l ↦ rw (state_before j l, row_before j l) (before j l)
        | inr e ↦ rw (e, state_last, row_last) last
      ]

  -- What is known stays known.
  pub known_before : {s j : ℕ} → KnownAt ks s j → KnownAt (ks ++ k ∷ []) s j
  known_before {s} {j} a = record { within = omega (arith, a.within, length_more); is = state_before j a.within ∙ a.is }

-- The one known state of the beginning.
pub state_only : (k : Known) → state_at (k ∷ []) 0 ≡ k.state
unfolding state_at
state_only k = refl

pub row_only : (k : Known) → row_at (k ∷ []) 0 ≡ k.row
unfolding row_at
row_only k = refl

pub each_only : (P : ℕ → Items → Type 0) (k : Known) → P k.state k.row
    → (j : ℕ) → j < length (k ∷ []) → P (state_at (k ∷ []) j) (row_at (k ∷ []) j)
each_only P k p j h =
    let z : j ≡ 0 = omega arith in
    rw (z, state_only k, row_only k) p

-- A state is known or new.
pub knows? : (ks : List Known) (s : ℕ) → Knows ks s ⊎ NewState ks s
knows? ks s =
    elim (some_below? _ (λ j. ℕ_discrete (state_at ks j) s) (length ks)) [
      | yes x ↦ inl (x.0, record { within = x.1; is = x.2 })
      | no n ↦ inr (λ j h e. n (j, h, e))
    ]
