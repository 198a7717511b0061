-- What a run says.
use Rattle.std.proofs.Common.{◌≡◌, ℕ, zero, suc, ◌+◌, ◌-◌, ◌<◌, ◌≤◌, Bool, true, false, cond, leb, List, [], ◌∷◌, length, get_or, drop, Some, None, Option, sym, refl, ap, ◌∙◌, inl, inr, arith, MatchResult}
use Rattle.std.proofs.lemmas.Slice.Eq.{bytes_eq-Decides}
use Rattle.std.proofs.lemmas.List.{length-drop, get_or-drop}
use Rattle.std.proofs.lemmas.Bool.{cases_Bool, leb-true, leb-false}
use Rattle.grammar_format.specs.Keeping.{spelling_of}
use Rattle.grammar_format.specs.Sheets.{Sheet}
use Rattle.grammar.specs.declared.refusal.Refusal.{Refusal}
use Rattle.words.specs.Faithful.{Spells, Unspelled}
use Rattle.words.specs.Places.{Sound}
use Rattle.words.specs.Refusals.{of_feed}
use Rattle.words.specs.Runs.{Run, run_end}
use Rattle.words.specs.Texts.{all_digits, same_spelling, spelled_from, spelled_terminal, amount_said, spelling_said, said}
use Rattle.words.specs.declared.word.Word.{Word}
use Rattle.words.proofs.Amounts.{value_few}

-- The terminal that is found is spelled so.
spelled_some : (t : ℕ) (xs : List (List ℕ)) (w : List ℕ) (u : ℕ) → spelled_from t xs w ≡ Some u → (t ≤ u) × (u < t + length xs) × (get_or xs (u - t) [] ≡ w)
spelled_some t [] w u e = let z : ◌≡◌ {A = ℕ} 0 1 = cc in absurd (omega arith)
spelled_some t (x ∷ xs) w u e =
    elim (cases_Bool (same_spelling x w)) [
      | inl f ↦
          let g : t ≡ u = let k = simp f at e in cc in
          (omega arith, omega arith, ap (λ n. get_or (x ∷ xs) n []) (let k : u - t ≡ 0 = omega arith in k) ∙ (bytes_eq-Decides x w).0 f)
      | inr f ↦
          let k = spelled_some (t + 1) xs w u (simp f at e) in
          (omega (arith, k.0), omega (arith, k.1), ap (λ n. get_or (x ∷ xs) n []) (let m : u - t ≡ suc (u - (t + 1)) = omega (arith, k.0) in m) ∙ k.2)
    ]

-- Where none is found, none is spelled so.
found_none : {P : Type 0} (x w : List ℕ) (t : ℕ) (o : Option ℕ) → same_spelling x w ≡ true → cond (same_spelling x w) (Some t) o ≡ None → P
found_none x w t o f e = let k = simp f at e in let z : ◌≡◌ {A = ℕ} 0 1 = cc in absurd (omega arith)

spelled_none : (t : ℕ) (xs : List (List ℕ)) (w : List ℕ) → spelled_from t xs w ≡ None → (k : ℕ) → k < length xs → get_or xs k [] ≡ w → ⊥
spelled_none t [] w e k h f = omega arith
spelled_none t (x ∷ xs) w e zero h f = found_none x w t (spelled_from (t + 1) xs w) ((bytes_eq-Decides x w).1 f) e
spelled_none t (x ∷ xs) w e (suc k) h f =
    elim (cases_Bool (same_spelling x w)) [
      | inl g ↦ found_none x w t (spelled_from (t + 1) xs w) g e
      | inr g ↦ spelled_none (t + 1) xs w (simp g at e) k (omega arith) f
    ]

module _ (s : Sheet) (some : 1 ≤ s.grammar.terminals) (one_each : length s.spellings ≡ s.grammar.terminals) where
  terminal_some : (w : List ℕ) (t : ℕ) → spelled_terminal s w ≡ Some t → (0 < t) × (t < s.grammar.terminals) × (spelling_of s t ≡ w)
  unfolding spelled_terminal
  terminal_some w t e =
      let k = spelled_some 1 (drop 1 s.spellings) w t e in
      let m : t ≡ 1 + (t - 1) = omega (arith, k.0) in
      (omega (arith, k.0), omega (arith, k.1, length-drop 1 s.spellings), ap (λ n. get_or s.spellings n []) m ∙ sym (get_or-drop 1 s.spellings (t - 1) []) ∙ k.2)

  terminal_none : (w : List ℕ) → spelled_terminal s w ≡ None → Unspelled s w
  unfolding spelled_terminal
  terminal_none w e t h l f =
      let m : 1 + (t - 1) ≡ t = omega arith in
      spelled_none 1 (drop 1 s.spellings) w e (t - 1) (omega (arith, length-drop 1 s.spellings)) (get_or-drop 1 s.spellings (t - 1) [] ∙ ap (λ n. get_or s.spellings n []) m ∙ f)

  -- A word that the run r says, and a refusal.
  pub record WordOf (r : Run) (w : Word) : Type 0 where
    pub from_is : w.from ≡ r.from
    pub to_is : w.to ≡ run_end r
    pub sound : Sound s.grammar.terminals w
    pub spells : Spells s w r.bytes

  pub data FaultOf (r : Run) (x : Refusal) : Type 0 where
    unspelled : x ≡ of_feed 51 r.from (run_end r) → all_digits r.bytes ≡ false → Unspelled s r.bytes → FaultOf r x
    too_long : x ≡ of_feed 52 r.from (run_end r) → all_digits r.bytes ≡ true → 5 < length r.bytes → FaultOf r x

  amount_right : (r : Run) (a : Bool) → all_digits r.bytes ≡ true → leb (length r.bytes) 5 ≡ a → MatchResult (amount_said r) (WordOf r) (FaultOf r)
  amount_right r true d e =
      let few = leb-true (length r.bytes) 5 e in
      let low = value_few r.bytes 5 d few in
      simp e (record {
        from_is = refl;
        to_is = refl;
        sound = record { known = omega arith; plain = λ h. absurd (omega arith); small = omega (arith, low) };
        spells = record { amount = λ _. record { digits = d; few = few; value_is = refl }; spelling = λ h. absurd (omega arith) };
      })
  amount_right r false d e = simp e (too_long refl d (leb-false (length r.bytes) 5 e))

  spelling_right : (r : Run) (o : Option ℕ) → all_digits r.bytes ≡ false → spelled_terminal s r.bytes ≡ o → MatchResult (spelling_said r o) (WordOf r) (FaultOf r)
  spelling_right r None d e = unspelled refl d (terminal_none r.bytes e)
  spelling_right r (Some t) d e =
      let k = terminal_some r.bytes t e in
      record {
        from_is = refl;
        to_is = refl;
        sound = record { known = k.1; plain = λ _. refl; small = omega arith };
        spells = record { amount = λ z. absurd (omega (arith, k.0)); spelling = λ _. k.2 };
      }

  by_digits : (r : Run) (a : Bool) → all_digits r.bytes ≡ a → MatchResult (cond a (amount_said r) (spelling_said r (spelled_terminal s r.bytes))) (WordOf r) (FaultOf r)
  by_digits r true d = amount_right r (leb (length r.bytes) 5) d refl
  by_digits r false d = spelling_right r (spelled_terminal s r.bytes) d refl

  pub said_right : (r : Run) → MatchResult (said s r) (WordOf r) (FaultOf r)
  said_right r = by_digits r (all_digits r.bytes) refl
