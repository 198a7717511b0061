-- A kernel has one completed row, and a row has one step by a symbol.
use Rattle.std.proofs.Common.{◌≡◌, ℕ, ◌<◌, Bool, true, false, ◌↔◌, sym, refl, arith}
use mathlib.Core.Path.{fun_ext}
use mathlib.Core.Bool.{Bool-set}
use mathlib.Core.HLevel.{⊥_prop}
use mathlib.Core.Logic.{∥∥₁_elim}
use native.Mathlib.Bridge.{le_prop}
use Rattle.parsing.specs.Grammar.{Grammar}
use Rattle.parsing.specs.Items.{Closure}
use Rattle.table_format.specs.ItemSets.{Items, symbols, Completed, Moved, Moves, NoStep, StepTo, RightSides}

-- Two tests that are true together are equal.
agree : (a b : Bool) → (a ≡ true → b ≡ true) → (b ≡ true → a ≡ true) → a ≡ b
agree true b f k = sym (f refl)
agree false true f k = k refl
agree false false f k = refl

pub completed_one : {g : Grammar} {I : ℕ → ℕ → Type 0} {v w : Items} → Completed g I v → Completed g I w → v ≡ w
completed_one {v = v} {w = w} p q =
    fun_ext (λ r. fun_ext (λ d. agree (v r d) (w r d) (λ e. (q r d).1 ((p r d).0 e)) (λ e. (p r d).1 ((q r d).0 e))))

-- A row that tells what is in the closure is the completed row.
pub completed_from : {g : Grammar} {I : ℕ → ℕ → Type 0} {w : Items} → ((r d : ℕ) → (w r d ≡ true) ↔ Closure g I r d) → Completed g I w
completed_from {w = w} f r d = (λ e. ∣ (f r d).0 e ∣₁, λ c. ∥∥₁_elim c (Bool-set (w r d) true) (f r d).1)

pub step_from : {g : Grammar} {v w : Items} {X : ℕ} → Moves g v X → ((r d : ℕ) → (w r d ≡ true) ↔ Closure g (Moved g v X) r d) → StepTo g v X w
step_from m f = record { moves = ∣ m ∣₁; row = completed_from f }

pub step_one : {g : Grammar} {u v w : Items} {X : ℕ} → StepTo g u X v → StepTo g u X w → v ≡ w
step_one {g} p q = completed_one {g = g} p.row q.row

-- A step that is made is not none.
pub not_both : {g : Grammar} {v w : Items} {X : ℕ} → StepTo g v X w → NoStep g v X → ⊥
not_both p n = ∥∥₁_elim p.moves ⊥_prop (λ m. n m.rule m.dot m.inside m.next)

-- A step is by a symbol of the grammar.
pub step_symbol : {g : Grammar} {v w : Items} {X : ℕ} → RightSides g → StepTo g v X w → X < symbols g
step_symbol rs p =
    ∥∥₁_elim p.moves le_prop
    (λ m. omega (arith, rs m.rule m.dot m.next.rule_in m.next.dot_in, m.next.symbol))
