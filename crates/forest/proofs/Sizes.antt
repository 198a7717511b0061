-- A list without repeats is no longer than a list that holds all its records.
use Rattle.std.proofs.Common.{◌≡◌, ℕ, ◌<◌, ◌≤◌, List, [], length, get_or, sym, ap, ◌∙◌, inl, inr, arith}
use Rattle.std.proofs.lemmas.List.{get_or_default}
use Rattle.std.proofs.lemmas.Bool.{cases_order}
use Rattle.table_format.proofs.Pigeons.{pigeons}
use Rattle.register.specs.Lists.{Has, Apart, More}
use Rattle.register.proofs.Growing.{has_none}

module _ {X : Type 0} (d : X) where
  no_longer : (xs us : List X) → Apart xs → ((z : X) → Has xs z → Has us z) → length xs ≤ length us
  no_longer xs us apart sub = pigeons (length xs) (length us) index index_in distinct
    where
      place : (i : ℕ) → i < length xs → Has us (get_or xs i d)
      place i h = sub (get_or xs i d) (i, h, λ e. get_or_default xs i e d h)

      index : (i : ℕ) → i < length xs → ℕ
      index i h = (place i h).0

      index_in : (i : ℕ) (h : i < length xs) → index i h < length us
      index_in i h = (place i h).1

      same : (i j : ℕ) (h : i < length xs) (k : j < length xs) → index i h ≡ index j k → get_or xs i d ≡ get_or xs j d
      same i j h k e = sym ((place i h).2 d) ∙ ap (λ t. get_or us t d) e ∙ (place j k).2 d

      distinct : (i j : ℕ) (h : i < length xs) (k : j < length xs) → index i h ≡ index j k → i ≡ j
      distinct i j h k e = elim (cases_order i j) [
        | inl q ↦ q
        | inr (inl l) ↦ absurd (apart i j d l k (same i j h k e))
        | inr (inr l) ↦ absurd (apart j i d l h (sym (same i j h k e)))
      ]

  -- Where us holds all records with the property P and is short enough, there are no more than n of them.
  pub enough : (P : X → Type 0) (us : List X) (n : ℕ) → length us ≤ n → ((z : X) → P z → Has us z) → More P [] n → ⊥
  enough P us n l whole m =
      let k = no_longer m.some us m.apart (λ z h. elim (m.each z h) [ inl x ↦ absurd (has_none z x) | inr x ↦ whole z x ]) in
      let w = m.many in
      omega arith
