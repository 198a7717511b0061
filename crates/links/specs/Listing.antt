-- Lists of cells, by tests, and marks.
--   same a b       whether two cells are the same
--   listed c xs    whether c is in xs
--   distinct xs    whether no two cells of xs are the same
--   mark marks c   the mark of the cell c; none outside
--   place_at xs k  the place of the cell k of xs
use Rattle.std.specs.Prelude.{ℕ, Bool, true, false, cond, ◌&&◌, List, [], ◌∷◌, ◌==◌, slice_index_or}
use Rattle.link_growth.specs.declared.Cell.{Cell}

abbrev pub same : Cell → Cell → Bool
same a b = a.state == b.state && a.place == b.place

unfoldable pub listed : Cell → List Cell → Bool
listed c [] = false
listed c (x ∷ xs) = cond (same c x) true (listed c xs)

unfoldable pub distinct : List Cell → Bool
distinct [] = true
distinct (x ∷ xs) = cond (listed x xs) false (distinct xs)

abbrev pub mark : List (List Bool) → Cell → Bool
mark marks c = slice_index_or (slice_index_or marks c.place []) c.state false

abbrev pub place_at : List Cell → ℕ → ℕ
place_at xs k = (slice_index_or xs k (record { state = 0; place = 0 })).place
