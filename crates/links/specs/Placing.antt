-- Lists of links, by the places of the links.
--   up_to k xs      those of the links xs that are at the places up to k, in their order
--   at_place p xs   those of the links xs that are at the place p, in their order
--   Rising xs       the links xs stand in the order of their places
use Rattle.std.specs.Prelude.{ℕ, ◌<◌, ◌≤◌, nat_eq, nat_le, List, length, filter}
use Rattle.link_growth.specs.declared.Link.{Link}
use Rattle.link_growth.specs.Entries.{at}

unfoldable pub up_to : ℕ → List Link → List Link
up_to k xs = filter (λ (l : Link). nat_le l.place k) xs

unfoldable pub at_place : ℕ → List Link → List Link
at_place p xs = filter (λ (l : Link). nat_eq l.place p) xs

abbrev pub Rising : List Link → Type 0
Rising xs = (h k : ℕ) → h < k → k < length xs → (at xs h).place ≤ (at xs k).place
