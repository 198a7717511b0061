-- The state of a sweep that collects the nodes that are met from the top.
--   MetNode g fits n z              the node z is met from the top, the start symbol over n words
--   Sweep g fits n D us             us holds met nodes in order, the top, and the parts of each of its nodes with the property D
--   Past i k z                      the node z begins before i, or at i and ends at k or later
--   Settles g fits D E a b r        a call that goes on with a sweep, from the nodes with the property D to those with E
--   Collected g fits n a b r        a call that collects all nodes that are met
--   OfSome g fits us n z            z is an alternative of one of the first n nodes of us
use Rattle.std.specs.Prelude.{◌≡◌, ℕ, ◌<◌, ◌≤◌, Bool, ◌⊎◌, List, [], Ok, Err, Result}
use Rattle.parsing.specs.Grammar.{Grammar, rule_count, start}
use Rattle.spans.specs.Spans.{Met}
use Rattle.register.specs.declared.register.Full.{Full}
use Rattle.register.specs.Lists.{Has, Climbs, More}
use Rattle.register.specs.Registers.{held, room, SameSlots}
use Rattle.records.specs.Registers.{Nodes}
use Rattle.records.specs.Orders.{node_cmp}
use Rattle.records.specs.declared.node.Node.{Node}
use Rattle.records.specs.declared.alternative.Alternative.{Alternative}
use Rattle.forest.specs.Parts.{PartBelow, Of}
use Rattle.forest.specs.Finding.{node_at, node_of}

abbrev pub MetNode : Grammar → (ℕ → ℕ → ℕ → Bool) → ℕ → Node → Type 0
MetNode g fits n z = Met g fits n z.symbol z.from z.to

pub record Sweep (g : Grammar) (fits : ℕ → ℕ → ℕ → Bool) (n : ℕ) (D : Node → Type 0) (us : List Node) : Type 0 where
  pub top : Has us (node_at (start g) 0 n)
  pub sound : (z : Node) → Has us z → MetNode g fits n z
  pub order : Climbs node_cmp us
  pub closed : (y : Node) → Has us y → D y → (z : Node) → PartBelow g fits y (rule_count g) z → Has us z

abbrev pub Past : ℕ → ℕ → Node → Type 0
Past i k z = (z.from < i) ⊎ ((z.from ≡ i) × (k ≤ z.to))

pub record Settled (g : Grammar) (fits : ℕ → ℕ → ℕ → Bool) (D E : Node → Type 0) (a b : Nodes) : Type 0 where
  pub same : SameSlots a b
  pub goes_on : (n : ℕ) → n < 255 → Sweep g fits n D (held a) → Sweep g fits n E (held b)

pub record Crowded (g : Grammar) (fits : ℕ → ℕ → ℕ → Bool) (D : Node → Type 0) (a b : Nodes) : Type 0 where
  pub same : SameSlots a b
  pub short : (n : ℕ) → n < 255 → Sweep g fits n D (held a) → More (MetNode g fits n) [] (room a)

abbrev pub Settles : {U : Type 0} → Grammar → (ℕ → ℕ → ℕ → Bool) → (Node → Type 0) → (Node → Type 0) → Nodes → Nodes → Result U Full → Type 0
Settles g fits D E a b (Ok _) = Settled g fits D E a b
Settles g fits D E a b (Err _) = Crowded g fits D a b

-- In order, exactly the nodes that are met.
pub record Exactly (g : Grammar) (fits : ℕ → ℕ → ℕ → Bool) (n : ℕ) (us : List Node) : Type 0 where
  pub order : Climbs node_cmp us
  pub sound : (z : Node) → Has us z → MetNode g fits n z
  pub whole : (z : Node) → MetNode g fits n z → Has us z

-- From an empty register: exactly the nodes that are met, or more of them than there is room for.
abbrev pub Collected : {U : Type 0} → Grammar → (ℕ → ℕ → ℕ → Bool) → ℕ → Nodes → Nodes → Result U Full → Type 0
Collected g fits n a b (Ok _) = SameSlots a b × Exactly g fits n (held b)
Collected g fits n a b (Err _) = SameSlots a b × More (MetNode g fits n) [] (room a)

pub record OfSome (g : Grammar) (fits : ℕ → ℕ → ℕ → Bool) (us : List Node) (n : ℕ) (z : Alternative) : Type 0 where
  pub index : ℕ
  pub index_in : index < n
  pub of : Of g fits (node_of us index) (rule_count g) z
