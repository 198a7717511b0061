-- The last cut that is used, as the last of those before the first that is not.
use Rattle.std.proofs.Common.{◌≡◌, ℕ, Bool, true, false, not, cond, List, [], ◌∷◌, ◌==◌, Option, Some, None, refl, ap, sym, ◌∙◌, map-id}
use Rattle.std.specs.Iterator.{Drains}
use Rattle.std.specs.List.{take_while, last_or}
use Rattle.std.specs.Option.{unwrap_or}
use Rattle.std.proofs.lemmas.List.Sums.{take_while-cons}
use Rattle.std.proofs.lemmas.Iterator.{YieldsList, items_from_drains}
use Rattle.records.specs.Cuts.{last_used}

abbrev pub is_used : ℕ → Bool
is_used c = not (c == 255)

-- The last item of an iterator that gives the list.
pub last_from_yields : {S A : Type 0} {steps : S → Option A → S → Type 0} (s : S) (r : Option A) (all : List A)
    → ((xs : List A) × Drains steps s xs × (r ≡ last_or None xs)) → YieldsList steps (λ x. x) s all → r ≡ last_or None all
last_from_yields {S} {A} {steps} s r all (xs, (u, (t, d, e)), q) y =
    q ∙ ap (last_or None) (sym (map-id xs) ∙ items_from_drains {steps = steps} {v = λ x. x} {s = s} xs (t, d, λ _. (u, e)) y)

after : (a e : ℕ) (cs : List ℕ) → unwrap_or (last_or (Some a) (take_while is_used cs)) e ≡ last_used a cs
after a e [] = refl
after a e (c ∷ cs) =
    ap (λ xs. unwrap_or (last_or (Some a) xs) e) (take_while-cons is_used c cs)
    ∙ elim (c == 255) as (λ b. unwrap_or (last_or (Some a) (cond (not b) (c ∷ take_while is_used cs) [])) e ≡ cond b a (last_used c cs)) [
      | true ↦ refl
      | false ↦ after c e cs
    ]

pub last_of_used : (e : ℕ) (cs : List ℕ) → unwrap_or (last_or None (take_while is_used cs)) e ≡ last_used e cs
last_of_used e [] = refl
last_of_used e (c ∷ cs) =
    ap (λ xs. unwrap_or (last_or None xs) e) (take_while-cons is_used c cs)
    ∙ elim (c == 255) as (λ b. unwrap_or (last_or None (cond (not b) (c ∷ take_while is_used cs) [])) e ≡ cond b e (last_used c cs)) [
      | true ↦ refl
      | false ↦ after c e cs
    ]
