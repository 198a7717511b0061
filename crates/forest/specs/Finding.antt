-- Nodes in a list that is in order.
--   node_at x i j           the node of x from i to j
--   node_of us k            the node at place k of the list us
--   Before z i j            the node z comes before those from i that end at j or later
--   LowerBound us i j k     in order, the first k nodes of us are those that come before
--   AllDone us i j done     all nodes of us from i to j are done
--   Open us i j done x      the node of x from i to j is in us, and not done
--   NoneBelow us i n        no node of us from i ends before n
--   LastBelow us i n j      j is before n, and no node of us from i ends between
use Rattle.std.specs.Prelude.{◌≡◌, ℕ, ◌<◌, ◌≤◌, Bool, true, false, ◌⊎◌, List, length, get_or, slice_index_or}
use Rattle.register.specs.Lists.{Has, Climbs}
use Rattle.records.specs.Orders.{node_cmp}
use Rattle.records.specs.declared.node.Node.{Node}

abbrev pub node_at : ℕ → ℕ → ℕ → Node
node_at x i j = record { from = i; to = j; symbol = x }

abbrev pub node_of : List Node → ℕ → Node
node_of us k = slice_index_or us k (node_at 0 0 0)

abbrev pub Before : Node → ℕ → ℕ → Type 0
Before z i j = (z.from < i) ⊎ ((z.from ≡ i) × (z.to < j))

pub record LowerBound (us : List Node) (i j k : ℕ) : Type 0 where
  pub within : k ≤ length us
  pub below : Climbs node_cmp us → (t : ℕ) → t < k → Before (node_of us t) i j
  pub above : Climbs node_cmp us → (t : ℕ) → k ≤ t → t < length us → Before (node_of us t) i j → ⊥

abbrev pub AllDone : List Node → ℕ → ℕ → List Bool → Type 0
AllDone us i j done = (z : Node) → Has us z → z.from ≡ i → z.to ≡ j → slice_index_or done z.symbol false ≡ true

pub record Open (us : List Node) (i j : ℕ) (done : List Bool) (x : ℕ) : Type 0 where
  pub held : Has us (node_at x i j)
  pub fresh : get_or done x false ≡ false
  pub small : x < 256

abbrev pub NoneBelow : List Node → ℕ → ℕ → Type 0
NoneBelow us i n = (z : Node) → Has us z → z.from ≡ i → n ≤ z.to

pub record LastBelow (us : List Node) (i n j : ℕ) : Type 0 where
  pub before : j < n
  pub last : (z : Node) → Has us z → z.from ≡ i → z.to < n → z.to ≤ j
