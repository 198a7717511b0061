-- What a loop over links picks into a list of cells.
--   Inserted c old new      new holds what old holds, and c; and no more
--   Picked P f xs old new   new holds what old holds, and f l for each l of xs with P l; and no more
--   Tops src j r n xs cs    the cells cs are the states live at j in which the rule r is done: those of the links from n on, and the first
use Rattle.std.specs.Prelude.{◌≡◌, ℕ, true, ◌⊎◌, List, drop}
use Rattle.parsing.specs.Items.{Source}
use Rattle.parsing.specs.Links.{LiveOf}
use Rattle.link_growth.specs.declared.Link.{Link}
use Rattle.link_growth.specs.declared.Cell.{Cell}
use Rattle.link_growth.specs.Entries.{Mem, Has, cell, upper}

pub record Inserted (c : Cell) (old new : List Cell) : Type 0 where
  pub kept : (d : Cell) → Mem d old → Mem d new
  pub there : Mem c new
  pub sound : (d : Cell) → Mem d new → Mem d old ⊎ (d ≡ c)

pub record Picked (P : Link → Type 0) (f : Link → Cell) (xs : List Link) (old new : List Cell) : Type 0 where
  pub kept : (c : Cell) → Mem c old → Mem c new
  pub whole : (l : Link) → Mem l xs → P l → Mem (f l) new
  pub sound : (c : Cell) → Mem c new → Mem c old ⊎ ((l : Link) × Mem l xs × P l × (f l ≡ c))

pub record Tops (src : Source) (j r n : ℕ) (xs : List Link) (cs : List Cell) : Type 0 where
  pub first : j ≡ 0 → src.done src.first r ≡ true → Mem (cell src.first 0) cs
  pub whole : (l : Link) → Mem l (drop n xs) → src.done l.state r ≡ true → Mem (upper l) cs
  pub sound : (c : Cell) → Mem c cs → (c.place ≡ j) × LiveOf src (Has xs) c.state j × (src.done c.state r ≡ true)
