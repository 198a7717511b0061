-- Looking for the terminal that bytes spell.
use Rattle.std.proofs.Common.{◌≡◌, ℕ, zero, suc, ◌+◌, ◌-◌, ◌<◌, ◌≤◌, Bool, true, false, ◌&&◌, List, [], ◌∷◌, length, get_or, drop, Some, None, Option, sym, refl, ap, ◌∙◌, arith, nat_lt}
use Rattle.std.specs.Option.{MatchOption}
use Rattle.std.proofs.lemmas.List.{get_or-drop, length-drop}
use Rattle.std.proofs.lemmas.Bool.{and_parts, lt-ltb}
use Rattle.grammar_format.specs.Keeping.{spelling_of}
use Rattle.grammar_format.specs.Sheets.{Sheet}
use Rattle.words.specs.Texts.{same_spelling, spelled_from, spelled_terminal}

-- The first of some spellings that is the bytes w, from a terminal on; and none, where none is.
pub spelled_first : (xs : List (List ℕ)) (t i : ℕ) (w : List ℕ) → i < length xs → same_spelling (get_or xs i []) w ≡ true → ((k : ℕ) → k < i → same_spelling (get_or xs k []) w ≡ false) → spelled_from t xs w ≡ Some (t + i)
spelled_first [] t i w h e f = absurd (omega arith)
spelled_first (x ∷ xs) t zero w h e f = simp e (ap Some (omega arith))
spelled_first (x ∷ xs) t (suc i) w h e f =
    simp (f 0 (omega arith)) (spelled_first xs (t + 1) i w (omega arith) e (λ k l. f (suc k) (omega arith)) ∙ ap Some (omega arith))

pub spelled_never : (xs : List (List ℕ)) (t : ℕ) (w : List ℕ) → ((k : ℕ) → k < length xs → same_spelling (get_or xs k []) w ≡ false) → spelled_from t xs w ≡ None
spelled_never [] t w f = refl
spelled_never (x ∷ xs) t w f = simp (f 0 (omega arith)) (spelled_never xs (t + 1) w (λ k l. f (suc k) (omega arith)))

-- Whether the terminal t of the sheet s is spelled with the bytes w.
abbrev pub spells : Sheet → List ℕ → ℕ → Bool
spells s w t = nat_lt t s.grammar.terminals && same_spelling (spelling_of s t) w

-- The first terminal from 1 up to T that is spelled with the bytes w, if there is one.
abbrev pub FirstSpelled : Sheet → List ℕ → ℕ → Option ℕ → Type 0
FirstSpelled s w T r = MatchOption r ((k : ℕ) → 1 ≤ k → k < T → spells s w k ≡ false) (λ i. (1 ≤ i) × (i < T) × (spells s w i ≡ true) × ((k : ℕ) → 1 ≤ k → k < i → spells s w k ≡ false))

module _ (s : Sheet) (w : List ℕ) (T : ℕ) (all : T ≡ s.grammar.terminals) (one_each : length s.spellings ≡ s.grammar.terminals) where
  not_spelled : (k : ℕ) → k < s.grammar.terminals → spells s w k ≡ false → same_spelling (spelling_of s k) w ≡ false
  not_spelled k l e = let f = lt-ltb k s.grammar.terminals l in simp f at e

  pub first_spelled : (r : Option ℕ) → FirstSpelled s w T r → r ≡ spelled_terminal s w
  unfolding spelled_terminal
  first_spelled None h =
      sym (spelled_never (drop 1 s.spellings) 1 w (λ k l. simp get_or-drop (not_spelled (1 + k) (omega (arith, length-drop 1 s.spellings)) (h (1 + k) (omega arith) (omega (arith, length-drop 1 s.spellings))))))
  first_spelled (Some i) h =
      sym (spelled_first (drop 1 s.spellings) 1 (i - 1) w (omega (arith, length-drop 1 s.spellings))
      (let n : 1 + (i - 1) ≡ i = omega arith in simp (get_or-drop, n) (and_parts (nat_lt i s.grammar.terminals) (same_spelling (spelling_of s i) w) h.2).1)
      (λ k l. simp get_or-drop (not_spelled (1 + k) (omega arith) (h.3 (1 + k) (omega arith) (omega arith))))
      ∙ ap Some (omega arith))
