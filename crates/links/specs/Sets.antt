-- Sets of cells.
--   cells_of s               the cells of the set s
--   Popped s r u             r is a cell of s, and u is s without it; or s is empty, and r is none
--   Roomy R xs cs            a set of the cells cs has room for those that R gives of the links xs
--   Collected R xs old new   new holds what old holds, and what R gives of the links xs; and no more
--   Revisits s k r u         u has the cells of s, and where r says so, a cell before k is at the place of the cell k
use Rattle.std.specs.Prelude.{◌≡◌, ℕ, ◌<◌, ◌≤◌, ◌⊎◌, Bool, true, List, [], ◌∷◌, ◌++◌, length, Some, None, Option}
use Rattle.link_growth.specs.declared.Link.{Link}
use Rattle.link_growth.specs.declared.Cell.{Cell}
use Rattle.link_growth.specs.Entries.{Mem}
use Rattle.links.specs.declared.cells.Cells.{Cells}
use Rattle.links.specs.Listing.{place_at}

abbrev pub cells_of : Cells → List Cell
cells_of s = s.list.items

abbrev pub Popped : Cells → Option Cell → Cells → Type 0
Popped s (Some c) u = cells_of s ≡ cells_of u ++ c ∷ []
Popped s None u = (cells_of s ≡ []) × (cells_of u ≡ [])

pub record Roomy (R : Link → Option Cell → Type 0) (xs : List Link) (cs : List Cell) : Type 0 where
  pub among : List Cell
  pub few : length among ≤ 4097
  pub old : (c : Cell) → Mem c cs → Mem c among
  pub new : (l : Link) (c : Cell) → Mem l xs → R l (Some c) → Mem c among

pub record Collected (R : Link → Option Cell → Type 0) (xs : List Link) (old new : List Cell) : Type 0 where
  pub kept : (c : Cell) → Mem c old → Mem c new
  pub whole : (l : Link) → Mem l xs → (r : Option Cell) × R l r × ((c : Cell) → r ≡ Some c → Mem c new)
  pub sound : (c : Cell) → Mem c new → Mem c old ⊎ ((l : Link) × Mem l xs × R l (Some c))

pub record Revisits (s : Cells) (k : ℕ) (r : Bool) (u : Cells) : Type 0 where
  pub same : cells_of u ≡ cells_of s
  pub earlier : r ≡ true → (h : ℕ) × (h < k) × (place_at (cells_of s) h ≡ place_at (cells_of s) k)
