-- A test of each number decides whether some number below n passes, and whether all of them do.
use Rattle.std.proofs.Common.{ℕ, zero, suc, ◌<◌, subst, arith}
use mathlib.Core.Logic.Dec
use mathlib.Core.HLevel.{dec→stable}
use native.Mathlib.Decide.{ℕ_discrete}

pub some_below? : (P : ℕ → Type 0) → ((k : ℕ) → Dec (P k)) → (n : ℕ) → Dec ((k : ℕ) × (k < n) × P k)
some_below? P test zero = no (λ x. let h = x.1 in omega arith)
some_below? P test (suc n) = go (test n) (some_below? P test n)
  where
    go : Dec (P n) → Dec ((k : ℕ) × (k < n) × P k) → Dec ((k : ℕ) × (k < suc n) × P k)
    go (yes p) d = yes (n, omega arith, p)
    go (no m) (yes x) = let h = x.1 in yes (x.0, omega arith, x.2)
    go (no m) (no f) = no (λ x. last x.0 x.1 x.2)
      where
        last : (k : ℕ) → k < suc n → P k → ⊥
        last k h p = elim (ℕ_discrete k n) [ yes e ↦ m (subst P e p) | no e ↦ f (k, omega arith, p) ]

-- All pass when none fails.
pub all_below? : (P : ℕ → Type 0) → ((k : ℕ) → Dec (P k)) → (n : ℕ) → Dec ((k : ℕ) → k < n → P k)
all_below? P test n =
    elim (some_below? (λ k. ¬ (P k)) (λ k. Dec.not (test k)) n) [
      | yes x ↦ no (λ f. x.2 (f x.0 x.1))
      | no none ↦ yes (λ k h. dec→stable (test k) (λ fails. none (k, h, fails)))
    ]
