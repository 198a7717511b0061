-- Lists of records that have an order.
--   Has xs z      the record z stands in the list xs
--   Climbs R xs   each record of xs is below every later one by the order R: xs is in order, and holds none twice
--   Apart xs      no record stands twice in xs
--   Faithful R    records that the order R calls equal are the same
--   More P xs n   more than n different records stand in xs or have the property P
use Rattle.std.specs.Prelude.{◌≡◌, ℕ, ◌<◌, ◌⊎◌, List, length, ◌≢◌, slice_index_or}
use Rattle.std.specs.declared.cmp.Ordering.TheVariants.{Less, Equal}
use Rattle.std.specs.declared.cmp.Ordering.{Ordering}

abbrev pub Has : {X : Type 0} → List X → X → Type 0
Has {X} xs z = (k : ℕ) × (k < length xs) × ((d : X) → slice_index_or xs k d ≡ z)

abbrev pub Climbs : {X : Type 0} → (X → X → Ordering) → List X → Type 0
Climbs {X} R xs = (i j : ℕ) (d : X) → i < j → j < length xs → R (slice_index_or xs i d) (slice_index_or xs j d) ≡ Less

abbrev pub Apart : {X : Type 0} → List X → Type 0
Apart {X} xs = (i j : ℕ) (d : X) → i < j → j < length xs → slice_index_or xs i d ≢ slice_index_or xs j d

abbrev pub Faithful : {X : Type 0} → (X → X → Ordering) → Type 0
Faithful {X} R = (x y : X) → R x y ≡ Equal → x ≡ y

pub record More {X : Type 0} (P : X → Type 0) (xs : List X) (n : ℕ) : Type 0 where
  pub some : List X
  pub apart : Apart some
  pub each : (z : X) → Has some z → Has xs z ⊎ P z
  pub many : n < length some
