-- How a row and the symbols that come next in it change while it is completed or moved.
--   Within v w           every item of v is one of w
--   Adds v r d w         w is v with the item (r, d)
--   Joins S x T          the set T is S with the symbol x, if that is below 64
--   Nexts g v S          S tells which symbols come next in an item of v
--   Gathers g v r S T n  T is S with the symbols that come next in the items (r, dot) of v, dot below n
--   Sweeps g v X r m w n w is m with those items (r, dot) of v, dot below n, that have X next, with X passed
--   Kernel g v X w       X comes next in some item of v, and w has those items, with X passed, and no others
--   Led g u v            every item of v is in the closure of u
--   Predicts g v n       each of the first n rules whose left symbol comes next in an item of v has its first item in v
--   missing v n          how many of the first n rules do not have their first item in v
use Rattle.std.specs.Prelude.{◌≡◌, ℕ, zero, suc, ◌+◌, ◌<◌, Bool, true, cond, ◌⊎◌, ◌↔◌, MatchBool}
use Rattle.parsing.specs.Grammar.{Grammar, lhs}
use Rattle.parsing.specs.Items.{Next, Closure}
use Rattle.table_format.specs.ItemSets.{Items, Moved, Moves, NoStep}

abbrev pub Within : Items → Items → Type 0
Within v w = (r d : ℕ) → v r d ≡ true → w r d ≡ true

pub record Adds (v : Items) (r d : ℕ) (w : Items) : Type 0 where
  pub kept : Within v w
  pub added : w r d ≡ true
  pub only : (q e : ℕ) → w q e ≡ true → (v q e ≡ true) ⊎ ((q ≡ r) × (e ≡ d))

pub record Joins (S : ℕ → Bool) (x : ℕ) (T : ℕ → Bool) : Type 0 where
  pub kept : (X : ℕ) → S X ≡ true → T X ≡ true
  pub added : x < 64 → T x ≡ true
  pub only : (X : ℕ) → T X ≡ true → (S X ≡ true) ⊎ ((X ≡ x) × (X < 64))

abbrev pub Nexts : Grammar → Items → (ℕ → Bool) → Type 0
Nexts g v S = (X : ℕ) → MatchBool (S X) (Moves g v X) (NoStep g v X)

pub record Gathers (g : Grammar) (v : Items) (r : ℕ) (S T : ℕ → Bool) (n : ℕ) : Type 0 where
  pub kept : (X : ℕ) → S X ≡ true → T X ≡ true
  pub sound : (X : ℕ) → T X ≡ true → (S X ≡ true) ⊎ Moves g v X
  pub made : (dot : ℕ) → dot < n → (X : ℕ) → v r dot ≡ true → Next g r dot X → T X ≡ true

pub record Sweeps (g : Grammar) (v : Items) (X r : ℕ) (m w : Items) (n : ℕ) : Type 0 where
  pub kept : Within m w
  pub sound : (q e : ℕ) → w q e ≡ true → (m q e ≡ true) ⊎ Moved g v X q e
  pub made : (dot : ℕ) → dot < n → v r dot ≡ true → Next g r dot X → w r (suc dot) ≡ true

pub record Kernel (g : Grammar) (v : Items) (X : ℕ) (w : Items) : Type 0 where
  pub moves : Moves g v X
  pub row : (r d : ℕ) → (w r d ≡ true) ↔ Moved g v X r d

abbrev pub Led : Grammar → Items → Items → Type 0
Led g u v = (r d : ℕ) → v r d ≡ true → Closure g (λ x y. u x y ≡ true) r d

abbrev pub Predicts : Grammar → Items → ℕ → Type 0
Predicts g v n = (q : ℕ) → q < n → (r d : ℕ) → v r d ≡ true → Next g r d (lhs g q) → v q 0 ≡ true

unfoldable pub missing : Items → ℕ → ℕ
missing v zero = 0
missing v (suc n) = cond (v n 0) 0 1 + missing v n
