-- The refusals of readings.
--   of_reading n p q   the reading's refusal of the number n, with the places p and q
--   Numbered n r       the refusal r is the reading's, of the number n; its places may be any
use Rattle.std.specs.Prelude.{◌≡◌, ℕ}
use Rattle.grammar.specs.declared.refusal.Refusal.{Refusal}
use Rattle.grammar.specs.declared.refusal.Layer.TheVariants.{Reading}

abbrev pub of_reading : ℕ → ℕ → ℕ → Refusal
of_reading n p q = record { number = n; layer = Reading; first = p; second = q }

pub record Numbered (n : ℕ) (r : Refusal) : Type 0 where
  pub number : r.number ≡ n
  pub layer : r.layer ≡ Reading
