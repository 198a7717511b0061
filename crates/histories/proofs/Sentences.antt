-- What the links of the kept words say of sentences.
use Rattle.std.proofs.Common.{◌≡◌, ℕ, ◌<◌, Bool, true, ◌↔◌, List, [], ◌∷◌, ◌++◌, length, Some, None, Option, sym, refl, ap, ◌∙◌, subst, append_assoc, arith}
use Rattle.grammar.specs.declared.refusal.Refusal.{Refusal}
use Rattle.parsing.specs.Grammar.{Sentence}
use Rattle.parsing.specs.Items.{Source}
use Rattle.parsing.specs.Links.{Linked}
use Rattle.link_growth.specs.Counting.{Steps}
use Rattle.parsing.proofs.Theorems.{judgement, viable}
use Rattle.states.specs.Sources.{Sourced}
use Rattle.histories.specs.Refusals.{of_reading, Numbered}
use Rattle.histories.specs.Meetings.{Meets, full, foreign, stuck, crowded, taken}
use Rattle.histories.specs.Doings.{Accepts}
use Rattle.histories.specs.Laws.{Begins, NoneBegins, DeadEnd}

-- Two different constructors are never equal: from such an equation `cc` has this one.
pub clash : {P : Type 0} → ◌≡◌ {A = ℕ} 0 1 → P
clash e = absurd (omega arith)

module _ {src : Source} (law : Sourced src) where
  -- The link by which words are judged is there exactly when they are a sentence.
  pub accepts_sentence : {ws : List ℕ} → Accepts src ws ↔ Sentence src.grammar ws
  accepts_sentence {ws} =
      let (s, e, j) = judgement src law.well_formed law.lawful in (
        λ x.
            let both : Some x.state ≡ Some s = sym x.steps ∙ e in
            let same : x.state ≡ s = cc in
            (j ws).0 (subst (λ t. Linked src ws t (length ws) src.first 0) same x.linked),
        λ x. record { state = s; steps = e; linked = (j ws).1 x },
      )

  pub judged_sentence : {ws : List ℕ} {b : Bool} → (b ≡ true) ↔ Accepts src ws → (b ≡ true) ↔ Sentence src.grammar ws
  judged_sentence k = ((λ e. accepts_sentence.0 (k.0 e)), λ x. k.1 (accepts_sentence.1 x))

  -- No state steps by a terminal exactly when no sentence begins with the words and it.
  pub stuck_begins : (ws : List ℕ) (t : ℕ) → t < src.grammar.terminals → (Steps src ws t → ⊥) → NoneBegins src.grammar (ws ++ t ∷ [])
  stuck_begins ws t h no_step vs x =
      no_step ((viable src law.well_formed law.lawful ws t h).1 (vs, rw append_assoc at x))

  pub steps_begins : (ws : List ℕ) (t : ℕ) → t < src.grammar.terminals → Steps src ws t → NoneBegins src.grammar (ws ++ t ∷ []) → ⊥
  steps_begins ws t h step none =
      let (vs, x) = (viable src law.well_formed law.lawful ws t h).0 step in
      none vs (rw append_assoc x)

  -- A refusal of a terminal is a 45 exactly at a dead end.
  pub dead_end : {n t : ℕ} {ws : List ℕ} {r : Refusal} → Meets src n ws t (Some r) → Numbered 45 r ↔ DeadEnd src.grammar ws t
  dead_end (full a) = ((λ x. let e = x.number in absurd (omega arith)), λ x. let e = x.room in absurd (omega arith))
  dead_end (foreign a b) = ((λ x. let e = x.number in absurd (omega arith)), λ x. let e = x.terminal in absurd (omega arith))
  dead_end {t = t} {ws = ws} (stuck a b c) = (
    λ _. record { room = a; terminal = b; none = stuck_begins ws t b c },
    λ _. record { number = refl; layer = refl },
  )
  dead_end {t = t} {ws = ws} (crowded a b c e) = (
    λ x. let n = x.number in absurd (omega arith),
    λ x. absurd (steps_begins ws t b c x.none),
  )

  -- A terminal that is taken begins some sentence with the kept words, and is no dead end.
  pub taken_begins : {n t : ℕ} {ws : List ℕ} → Meets src n ws t None → Begins src.grammar (ws ++ t ∷ [])
  taken_begins {t = t} {ws = ws} (taken a b c e) =
      let (vs, x) = (viable src law.well_formed law.lawful ws t b).0 c in
      (vs, rw append_assoc x)

  pub taken_alive : {P : Type 0} {n t : ℕ} {ws : List ℕ} → Meets src n ws t None → DeadEnd src.grammar ws t → P
  taken_alive m x = let (vs, y) = taken_begins m in absurd (x.none vs y)

  -- A terminal is refused as 45 exactly when no sentence begins with the kept words and it.
  pub meets_45 : {n t : ℕ} {ws : List ℕ} {o : Option Refusal} → Meets src n ws t o → length ws < 254 → t < src.grammar.terminals
      → (o ≡ Some (of_reading 45 (length ws) t)) ↔ NoneBegins src.grammar (ws ++ t ∷ [])
  meets_45 (full a) lo hi = absurd (omega arith)
  meets_45 (foreign a b) lo hi = absurd (omega arith)
  meets_45 {t = t} {ws = ws} (stuck a b c) lo hi = ((λ _. stuck_begins ws t b c), λ _. refl)
  meets_45 {t = t} {ws = ws} (crowded a b c e) lo hi = (
    λ x.
        let r : of_reading 46 (length ws) t ≡ of_reading 45 (length ws) t = cc in
        absurd (omega (arith, ap (λ q. q.number) r)),
    λ x. absurd (steps_begins ws t b c x),
  )
  meets_45 {t = t} {ws = ws} (taken a b c e) lo hi = ((λ x. let z : ◌≡◌ {A = ℕ} 0 1 = cc in clash z), λ x. absurd (steps_begins ws t b c x))

-- The places of a 45 are the number of kept words and the terminal.
pub places_45 : {src : Source} {n t : ℕ} {ws : List ℕ} {r : Refusal} → Meets src n ws t (Some r) → Numbered 45 r → r ≡ of_reading 45 (length ws) t
places_45 (full a) x = let e = x.number in absurd (omega arith)
places_45 (foreign a b) x = let e = x.number in absurd (omega arith)
places_45 (stuck a b c) x = refl
places_45 (crowded a b c d) x = let e = x.number in absurd (omega arith)
