-- The check of the bytes of a sheet: what it answers, when it passes, and that what is written passes.
use Rattle.std.proofs.Common.{◌≡◌, ℕ, ◌<◌, ◌≤◌, Bool, true, false, cond, ◌⊎◌, List, sym, refl, inl, inr, arith}
use mathlib.Core.HLevel.{⊥_prop}
use mathlib.Core.Logic.{∥∥₁_elim}
use Rattle.std.proofs.lemmas.Bool.{cases_order}
use Rattle.parsing.specs.Grammar.{Grammar, rule_count}
use Rattle.table_format.specs.ItemSets.{Items, RightSides}
use Rattle.table_format.specs.Tables.{Table, Matches, wholly}
use Rattle.table_format.specs.Walks.{Outcome, passes, refuses}
use Rattle.table_format.specs.Sheets.{table_of, table_bytes, Form}
use Rattle.table_format.specs.Breaches.{Clean, First, Checked, by_form, by_walk}
use Rattle.table_format.proofs.Determined.{walk_one}
use Rattle.table_format.proofs.Matching.{passed_matches}
use Rattle.table_format.proofs.Passing.{matches_passes, matches_ranged}
use Rattle.table_format.proofs.Alike.{matches_alike}
use Rattle.table_format.proofs.Cleaning.{row_from, form_clean, clean_form}
use Rattle.table_format.proofs.Sheets.{form_ranged, table_of_bytes, form_bytes}

-- Where a row applies, the form is not kept.
first_formless : {g : Grammar} {b : List ℕ} {n p : ℕ} → First g b n p → Clean g b 24 → ⊥
first_formless {n = n} {p = p} f c = c n p (inl (row_from f.applies).1) f.applies

-- There is one first row, at one place.
first_one : {g : Grammar} {b : List ℕ} {n p m q : ℕ} → First g b n p → First g b m q → (n ≡ m) × (p ≡ q)
first_one {n = n} {p = p} {m = m} {q = q} x y =
    elim (cases_order n m) [
      | inl e ↦
          elim (cases_order p q) [
            | inl f ↦ (e, f)
            | inr (inl h) ↦ absurd (y.before n p (inr (e, h)) x.applies)
            | inr (inr h) ↦ absurd (x.before m q (inr (sym e, h)) y.applies)
          ]
      | inr (inl h) ↦ absurd (y.before n p (inl h) x.applies)
      | inr (inr h) ↦ absurd (x.before m q (inl h) y.applies)
    ]

pub checked_one : {g : Grammar} {b : List ℕ} {o p : Outcome} → Checked g b o → Checked g b p → o ≡ p
checked_one (by_form x) (by_form y) = let (e, f) = first_one x y in λ i. refuses (e i) (f i) 0
checked_one (by_form x) (by_walk c w) = absurd (first_formless x c)
checked_one (by_walk c w) (by_form y) = absurd (first_formless y c)
checked_one (by_walk c v) (by_walk d w) = walk_one (form_ranged (clean_form c)) v w

-- What passes has the form, and its states match.
pub checked_matches : {g : Grammar} {b : List ℕ} → RightSides g → Checked g b passes
    → Form g b × ((rows : ℕ → Items) × Matches g (table_of b) rows)
checked_matches rs (by_walk c w) = (clean_form c, passed_matches rs (form_ranged (clean_form c)) w)

-- And the other way.
pub matches_checked : {g : Grammar} {b : List ℕ} {rows : ℕ → Items} → RightSides g → Form g b → Matches g (table_of b) rows → Checked g b passes
matches_checked rs f m = by_walk (form_clean f) (matches_passes rs (form_ranged f) m)

pub passes? : (o : Outcome) → (o ≡ passes) ⊎ (o ≡ passes → ⊥)
passes? passes = inl refl
passes? (refuses n p q) = inr (λ e. let z : ◌≡◌ {A = ℕ} 0 1 = cc in omega arith)

pub merely_passes : {g : Grammar} {b : List ℕ} {o : Outcome} → RightSides g → Checked g b o
    → Form g b → ∥ ((rows : ℕ → Items) × Matches g (table_of b) rows) ∥₁ → o ≡ passes
merely_passes {o = o} rs c f x =
    elim (passes? o) [
      | inl e ↦ e
      | inr n ↦ absurd (∥∥₁_elim x ⊥_prop (λ y. n (checked_one c (matches_checked rs f y.1))))
    ]

-- The marks of a matching are 0 or 1.
pub matches_marks : {g : Grammar} {t : Table} {rows : ℕ → Items} → Matches g t rows
    → (s r : ℕ) → s < t.states → r < rule_count g → t.mark s r ≤ 1
matches_marks {g} {rows = rows} m s r h l = rw (m.marks s r h l) (low (wholly g (rows s) r))
  where
    low : (b : Bool) → cond b 1 0 ≤ 1
    low true = omega arith
    low false = omega arith

-- What is written of a table whose states match passes.
pub written_passes : {g : Grammar} {t : Table} {rows : ℕ → Items} → RightSides g → t.states ≤ 255 → Matches g t rows
    → Checked g (table_bytes g t) passes
written_passes {g} {t} rs few m =
    matches_checked rs (form_bytes g t (matches_ranged few m) (matches_marks m)) (matches_alike (table_of_bytes g t) m)
