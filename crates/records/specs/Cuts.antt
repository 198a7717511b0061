-- The cuts of an alternative.
--   last_used e cs   the last of the cuts cs before the first that is not used, which is 255; e where there is none
--   first s          the first cut of the alternative s
--   last s           its last cut that is used
use Rattle.std.specs.Prelude.{ℕ, cond, List, [], ◌∷◌, ◌==◌, slice_index}
use Rattle.records.specs.declared.alternative.Alternative.{Alternative}

abbrev pub last_used : ℕ → List ℕ → ℕ
last_used e [] = e
last_used e (c ∷ cs) = cond (c == 255) e (last_used c cs)

abbrev pub first : Alternative → ℕ
first s = slice_index s.cuts 0

abbrev pub last : Alternative → ℕ
last s = last_used (first s) s.cuts
