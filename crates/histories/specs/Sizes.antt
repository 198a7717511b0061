-- How many records there are, by lists without repeats.
--   AtMost P n     at most n different records have the property P: no list without repeats of such records is longer
--   MoreThan P n   more than n different records have the property P: some list without repeats of such records is longer
use Rattle.std.specs.Prelude.{ℕ, ◌<◌, ◌≤◌, List, length}
use Rattle.register.specs.Lists.{Has, Apart}

abbrev pub AtMost : {X : Type 0} → (X → Type 0) → ℕ → Type 0
AtMost {X} P n = (xs : List X) → Apart xs → ((z : X) → Has xs z → P z) → length xs ≤ n

pub record MoreThan {X : Type 0} (P : X → Type 0) (n : ℕ) : Type 0 where
  pub some : List X
  pub apart : Apart some
  pub each : (z : X) → Has some z → P z
  pub many : n < length some
