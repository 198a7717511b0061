-- What is read of the bytes of a sheet is read of its table.
use Rattle.std.proofs.Common.{◌≡◌, ℕ, ◌+◌, ◌*◌, Bool, true, false, not, eqb, ◌≢◌, List, get_or, MatchOption, sym, refl, ◌∙◌}
use Rattle.std.specs.Bool.{then_some}
use Rattle.std.proofs.lemmas.Bool.{eqb-true, eqb-false}
use Rattle.table_format.specs.Sheets.{marks_at, table_of}
use Rattle.table_format.proofs.Sheets.{step_of, mark_of}
use Rattle.tables.specs.declared.header.Header.{Header}
use Rattle.tables.specs.Heads.{Laid}

module _ {b : List ℕ} {h : Header} (l : Laid b h) (s x n : ℕ) where
  pub step_read : n ≡ 12 + (s * h.symbols + x) → get_or b n 0 ≡ (table_of b).step s x
  step_read e = rw (e, l.told.symbols_are) (sym (step_of b s x))

  pub mark_read : n ≡ marks_at h.states h.symbols + (s * h.rules + x) → get_or b n 0 ≡ (table_of b).mark s x
  mark_read e = rw (e, l.told.states_are, l.told.symbols_are, l.told.rules_are) (sym (mark_of b s x))

-- A step byte b, and the step that it tells.
pub step_told : (b x : ℕ) → b ≡ x → MatchOption (then_some (not (eqb b 255)) b) (x ≡ 255) (λ t. (t ≡ x) × (t ≢ 255))
step_told b x e = by (eqb b 255) (eqb-true b 255) (eqb-false b 255)
  where
    by : (p : Bool) → (p ≡ true → b ≡ 255) → (p ≡ false → b ≢ 255) → MatchOption (then_some (not p) b) (x ≡ 255) (λ t. (t ≡ x) × (t ≢ 255))
    by true f g = sym e ∙ f refl
    by false f g = (e, g refl)
