-- The first of some numbers that has a property.
--   FirstOf low high P o   o is the first number from low, below high, of which P holds; none where it holds of none
use Rattle.std.specs.Prelude.{ℕ, ◌<◌, ◌≤◌, Option, MatchOption}

-- P holds of no number from low, below high.
abbrev pub NoneOf : ℕ → ℕ → (ℕ → Type 0) → Type 0
NoneOf low high P = (k : ℕ) → low ≤ k → k < high → P k → ⊥

abbrev pub FirstOf : ℕ → ℕ → (ℕ → Type 0) → Option ℕ → Type 0
FirstOf low high P o = MatchOption o (NoneOf low high P) (λ k. (low ≤ k) × (k < high) × P k × NoneOf low k P)
