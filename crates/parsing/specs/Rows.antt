-- Rows of items as bytes: 64 of them, and bit d of byte r says whether the item (r, d) is in the row.
--   bit b d     bit d of the number b: 0 or 1
--   has w r d   the row w has the item (r, d)
--   IsRow w     w is 64 bytes
use Rattle.std.specs.Prelude.{◌≡◌, ℕ, ◌/◌, ◌%◌, ◌^◌, ◌<◌, Bool, List, length, ◌==◌, slice_index}

abbrev pub bit : ℕ → ℕ → ℕ
bit b d = b / 2 ^ d % 2

abbrev pub has : List ℕ → ℕ → ℕ → Bool
has w r d = bit (slice_index w r) d == 1

pub record IsRow (w : List ℕ) : Type 0 where
  pub count : length w ≡ 64
  pub byte : (r : ℕ) → r < 64 → slice_index w r < 256
