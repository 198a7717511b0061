-- Rows of marked places.
--   Marked row a                the place a is marked in the row
--   Added P old new             the row `new` marks what `old` marks and all places with the property P, and nothing else
--   goes h next a b             a step of h leads from a to b, which is marked in `next`
--   Onward h next a j           from a, a step of h leads to a place up to j that is marked in `next`
--   Begins h i j next row       the row marks the places from i on that lead onward
--   Inward h i j before b       to b, a step of h leads from a place from i to j that is marked in `before`
--   Ends h i j before next row  the row marks those of the places of `next` up to j to which a step leads inward
--   Completes f m i j rows k    each row p from k to m marks the places from i on from which the parts from p up to m fit to j
--   Leads f m i j p row         the row marks the places up to which the parts before p fit from i, if those behind fit from there to j
use Rattle.std.specs.Prelude.{◌≡◌, ℕ, ◌≤◌, Bool, true, false, ◌&&◌, ◌⊎◌, List, [], length, slice_index_or}
use Rattle.spans.specs.Spans.{Path}

abbrev pub Marked : List Bool → ℕ → Type 0
Marked row a = slice_index_or row a false ≡ true

pub record Added (P : ℕ → Type 0) (old new : List Bool) : Type 0 where
  pub size : length new ≡ length old
  pub kept : (a : ℕ) → Marked old a → Marked new a
  pub whole : (a : ℕ) → P a → Marked new a
  pub only : (a : ℕ) → Marked new a → Marked old a ⊎ P a

abbrev pub goes : (ℕ → ℕ → Bool) → List Bool → ℕ → ℕ → Bool
goes h next a b = slice_index_or next b false && h a b

abbrev pub Onward : (ℕ → ℕ → Bool) → List Bool → ℕ → ℕ → Type 0
Onward h next a j = (b : ℕ) × (b ≤ j) × (h a b ≡ true) × Marked next b

pub record Begins (h : ℕ → ℕ → Bool) (i j : ℕ) (next row : List Bool) : Type 0 where
  pub size : length row ≡ 256
  pub sound : (a : ℕ) → Marked row a → Onward h next a j
  pub whole : (a : ℕ) → i ≤ a → Onward h next a j → Marked row a

abbrev pub Inward : (ℕ → ℕ → Bool) → ℕ → ℕ → List Bool → ℕ → Type 0
Inward h i j before b = (a : ℕ) × (i ≤ a) × (a ≤ j) × (h a b ≡ true) × Marked before a

pub record Ends (h : ℕ → ℕ → Bool) (i j : ℕ) (before next row : List Bool) : Type 0 where
  pub size : length row ≡ 256
  pub sound : (b : ℕ) → Marked row b → Inward h i j before b
  pub whole : (b : ℕ) → b ≤ j → Marked next b → Inward h i j before b → Marked row b

pub record Completes (f : ℕ → ℕ → ℕ → Bool) (m i j : ℕ) (rows : List (List Bool)) (k : ℕ) : Type 0 where
  pub size : length rows ≡ 8
  pub sound : (p a : ℕ) → k ≤ p → p ≤ m → Marked (slice_index_or rows p []) a → Path f p a m j
  pub whole : (p a : ℕ) → k ≤ p → p ≤ m → i ≤ a → Path f p a m j → Marked (slice_index_or rows p []) a

pub record Leads (f : ℕ → ℕ → ℕ → Bool) (m i j p : ℕ) (row : List Bool) : Type 0 where
  pub sound : (a : ℕ) → Marked row a → Path f 0 i p a
  pub whole : (a : ℕ) → Path f 0 i p a → Path f p a m j → Marked row a
