-- The six numbers at the head of a sheet.
--   Tells b ns   the bytes b have a head, and ns are its six numbers
use Rattle.std.specs.Prelude.{◌≡◌, ℕ, ◌≤◌, List, length, slice_index}
use Rattle.grammar_format.specs.Fields.{number}

pub record Tells (b ns : List ℕ) : Type 0 where
  pub head : 12 ≤ length b
  pub first : slice_index ns 0 ≡ number b 0
  pub second : slice_index ns 1 ≡ number b 2
  pub third : slice_index ns 2 ≡ number b 4
  pub fourth : slice_index ns 3 ≡ number b 6
  pub fifth : slice_index ns 4 ≡ number b 8
  pub sixth : slice_index ns 5 ≡ number b 10
