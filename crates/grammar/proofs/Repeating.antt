-- A word among the earlier ones.
use Rattle.std.proofs.Common.{◌≡◌, ℕ, ◌<◌, Bool, true, false, MatchBool, List, [], length, get_or, take, sym, ap, ◌∙◌, arith}
use Rattle.std.specs.List.{AllWithin, HoldsAt}
use Rattle.std.proofs.lemmas.List.{get_or-map, get_or-take, length-take-le}
use Rattle.grammar.specs.Holding.{words}
use Rattle.grammar.specs.Lists.{items}
use Rattle.grammar.specs.Progress.{Repeated}
use Rattle.grammar.specs.declared.few.Few.{Few}

-- The spelling w stands at t, and xs are its bytes.
module _ (ws : List (Few ℕ 12)) (t : ℕ) (l : t < length ws) (w : Few ℕ 12) (xs : List ℕ) (e : w ≡ get_or ws t w) (f : xs ≡ items w) where
  here : get_or (words ws) t [] ≡ xs
  here = get_or-map items ws t w [] l ∙ sym (ap items e) ∙ sym f

  earlier : (u : ℕ) → u < t → get_or (words ws) u [] ≡ items (get_or (take t ws) u w)
  earlier u h = get_or-map items ws u w [] (omega arith) ∙ sym (ap items (get_or-take t ws u w h))

  before : length (take t ws) ≡ t
  before = length-take-le t ws (omega arith)

  repeats : (u : ℕ) × (u < length (take t ws)) × HoldsAt (λ y. items y ≡ xs) (take t ws) u → Repeated (words ws) t
  repeats (u, h, g) = let i : u < t = omega (arith, before) in (u, i, earlier u i ∙ g w ∙ sym here)

  repeats_none : AllWithin (λ y. items y ≡ xs → ⊥) (take t ws) 0 (length (take t ws)) → Repeated (words ws) t → ⊥
  repeats_none n (u, h, g) = n u w (omega arith) (omega (arith, before)) (sym (earlier u h) ∙ g ∙ here)

  pub is_told : (b : Bool) → MatchBool b ((u : ℕ) × (u < length (take t ws)) × HoldsAt (λ y. items y ≡ xs) (take t ws) u) (AllWithin (λ y. items y ≡ xs → ⊥) (take t ws) 0 (length (take t ws)))
      → MatchBool b (Repeated (words ws) t) (Repeated (words ws) t → ⊥)
  is_told true h = repeats h
  is_told false h = repeats_none h
