-- What a set of cells holds, by its marks.
use Rattle.std.proofs.Common.{◌≡◌, true, false, List, [], ◌∷◌, ◌++◌, sym, ◌∙◌}
use Rattle.link_growth.specs.declared.Cell.{Cell}
use Rattle.link_growth.specs.Entries.{Mem, Once}
use Rattle.link_growth.specs.Picking.{Inserted}
use Rattle.link_growth.proofs.Members.{mem_left, mem_last, mem_split}
use Rattle.links.specs.declared.cells.Cells.{Cells}
use Rattle.links.specs.Listing.{mark}
use Rattle.links.specs.Sets.{cells_of}
use Rattle.links.proofs.Lists.{listed_mem, listed_not, distinct_once}

pub present : (s : Cells) (c : Cell) → mark s.marks c ≡ true → Mem c (cells_of s)
present s c e = listed_mem c (cells_of s) (sym (s.marked c) ∙ e)

pub absent : (s : Cells) (c : Cell) → mark s.marks c ≡ false → Mem c (cells_of s) → ⊥
absent s c e = listed_not c (cells_of s) (sym (s.marked c) ∙ e)

pub each_once : (s : Cells) → Once (cells_of s)
each_once s = distinct_once (cells_of s) s.once

pub inserted_new : (c : Cell) (xs : List Cell) → Inserted c xs (xs ++ c ∷ [])
inserted_new c xs = record { kept = λ d h. mem_left (c ∷ []) h; there = mem_last xs c; sound = λ d h. mem_split xs c h }
