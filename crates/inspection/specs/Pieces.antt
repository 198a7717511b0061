-- Text that is made of pieces.
--   each F low n   the pieces F low, F (low + 1) and so on, n of them, one behind another
use Rattle.std.specs.Prelude.{ℕ, zero, suc, ◌+◌, List, [], ◌++◌}

unfoldable pub each : (ℕ → List ℕ) → ℕ → ℕ → List ℕ
each F low zero = []
each F low (suc n) = each F low n ++ F (low + n)
