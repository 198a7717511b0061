-- What is written of built states is not refused.
use Rattle.std.proofs.Common.{◌≡◌, ℕ, List, Ok, Err, Result, MatchResult, IsOk, sym, refl, ap, subst, arith}
use Rattle.grammar.specs.Meaning.{meaning}
use Rattle.grammar.specs.declared.grammar.Grammar.{Grammar}
use Rattle.states.specs.Refusals.{outcome}
use Rattle.states.specs.declared.fault.TableFault.{TableFault}
use Rattle.table_format.specs.Sheets.{table_bytes}
use Rattle.table_format.specs.Walks.{passes}
use Rattle.table_format.specs.Breaches.{Checked}
use Rattle.table_format.proofs.Theorems.{sheet_determinacy}
use Rattle.tables.specs.Faults.{Refused}
use Rattle.built_states.specs.Built.{built_table}
use Rattle.built_states.specs.Writing.{sheet}
use Rattle.built_states.specs.declared.built.BuiltStates.{BuiltStates}

-- A result that is no error is unwrapped.
pub unwraps : {T E : Type 0} (P : T → Type 0) (Q : E → Type 0) (r : Result T E) → MatchResult r P Q → ((e : E) → Q e → ⊥) → IsOk r
unwraps P Q (Ok x) h n = refl
unwraps P Q (Err e) h n = absurd (n e h)

-- The sheet of states that are built for a grammar is that of their table.
pub sheet_is : (g : Grammar) (states : BuiltStates) → states.grammar ≡ g
    → sheet states ≡ table_bytes (meaning g) (built_table (meaning g) states.building.count states.building.rows states.building.steps)
unfolding sheet
sheet_is g states e = ap (λ h. table_bytes (meaning h) (built_table (meaning h) states.building.count states.building.rows states.building.steps)) e

-- Bytes that pass are not refused.
one_answer : (g : Grammar) (b : List ℕ) (f : TableFault) → Checked (meaning g) b passes → Refused (meaning g) b f → ⊥
one_answer g b f p r =
    let q : passes ≡ outcome f = sheet_determinacy (meaning g) b passes (outcome f) p r.checked in
    let z : ◌≡◌ {A = ℕ} 0 1 = cc in
    omega arith

pub not_refused : (g : Grammar) (states : BuiltStates) (b : List ℕ) (f : TableFault) → states.grammar ≡ g → b ≡ sheet states
    → Checked (meaning states.grammar) (sheet states) passes → Refused (meaning g) b f → ⊥
not_refused g states b f e i p =
    one_answer g b f (subst (λ x. Checked (meaning g) x passes) (sym i) (subst (λ h. Checked (meaning h) (sheet states) passes) e p))
