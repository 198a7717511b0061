-- Looking for the first number that has a property.
use Rattle.std.proofs.Common.{◌≡◌, ℕ, ◌+◌, subst, arith}
use native.Mathlib.Decide.{dec_lt}
use Rattle.grammar.specs.Finding.{NoneOf}

pub none_more : (low n : ℕ) (P : ℕ → Type 0) → NoneOf low n P → (P n → ⊥) → NoneOf low (n + 1) P
none_more low n P f here k h l p =
    elim (dec_lt k n) [ yes b ↦ f k h b p | no b ↦ let e : k ≡ n = omega arith in here (subst P e p) ]
