-- Lists of links: what they hold, and where they lead.
--   lnk s j b i        the link from the state s at place j down to the state b at place i
--   at xs k            the entry k of xs
--   Small l            the numbers of the link l are bytes
--   Mem y xs           y is in xs
--   Once xs            no two entries of xs are equal
--   Has xs s j b i     the link lnk s j b i is in xs
--   cell s j           the state s at place j
--   upper l, lower l   the cells that the link l leads from and down to
--   Leads xs m c d     m links of xs lead, one after another, from the cell c down to the cell d
--   Spread xs cs ds    the cells ds are what one link of xs leads down to from the cells cs
use Rattle.std.specs.Prelude.{◌≡◌, ℕ, zero, suc, ◌<◌, List, [], ◌∷◌, slice_index_or}
use Rattle.link_growth.specs.declared.Link.{Link}
use Rattle.link_growth.specs.declared.Cell.{Cell}

abbrev pub lnk : ℕ → ℕ → ℕ → ℕ → Link
lnk s j b i = record { state = s; place = j; below = b; below_place = i }

abbrev pub at : List Link → ℕ → Link
at xs k = slice_index_or xs k (lnk 0 0 0 0)

abbrev pub Small : Link → Type 0
Small l = (l.state < 256) × (l.place < 256) × (l.below < 256) × (l.below_place < 256)

pub data Mem {A : Type 0} (y : A) : List A → Type 0 where
  head : {xs : List A} → Mem y (y ∷ xs)
  tail : {x : A} {xs : List A} → Mem y xs → Mem y (x ∷ xs)

pub data Once {A : Type 0} : List A → Type 0 where
  nil : Once []
  cons : {x : A} {xs : List A} → (Mem x xs → ⊥) → Once xs → Once (x ∷ xs)

abbrev pub Has : List Link → ℕ → ℕ → ℕ → ℕ → Type 0
Has xs s j b i = Mem (lnk s j b i) xs

abbrev pub cell : ℕ → ℕ → Cell
cell s j = record { state = s; place = j }

abbrev pub upper : Link → Cell
upper l = cell l.state l.place

abbrev pub lower : Link → Cell
lower l = cell l.below l.below_place

pub data Leads (xs : List Link) : ℕ → Cell → Cell → Type 0 where
  stays : {c : Cell} → Leads xs zero c c
  goes : {m : ℕ} {d : Cell} (l : Link) → Mem l xs → Leads xs m (lower l) d → Leads xs (suc m) (upper l) d

pub record Spread (xs : List Link) (cs ds : List Cell) : Type 0 where
  pub whole : (l : Link) → Mem l xs → Mem (upper l) cs → Mem (lower l) ds
  pub sound : (c : Cell) → Mem c ds → (l : Link) × Mem l xs × Mem (upper l) cs × (lower l ≡ c)
