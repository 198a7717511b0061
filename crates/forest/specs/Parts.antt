-- The parts and the alternatives of a node, by what fits.
--   From h next x j a z             z is the node of x from a to a marked place up to j to which h leads
--   Between h before next x i j z   z is the node of x from a marked place of the one row to a marked place of the other, within i and j
--   PartOf g fits r i j n z         z is one of the first n parts of rule r, a nonterminal, wherever all parts of r fit from i to j
--   PartBelow g fits y n z          z is such a part of the node y, by one of the first n rules
--   Unused p ks                     the cuts past p are 255
--   Extends g fits rows r j p ks z  z is an alternative by rule r that begins with the cuts ks up to p, and whose parts from p on fit, along
--                                   the marked places of the rows up to j; its other cuts are 255
--   Whole g fits r i j z            z is the alternative by rule r whose parts all fit from i to j; its other cuts are 255
--   Of g fits y n z                 z is such an alternative of the node y, by one of the first n rules
use Rattle.std.specs.Prelude.{◌≡◌, ℕ, ◌+◌, ◌<◌, ◌≤◌, Bool, true, List, [], length, get_or, slice_index, slice_index_or}
use Rattle.parsing.specs.Grammar.{Grammar, lhs, rhs}
use Rattle.spans.specs.Spans.{part_fits, Placed}
use Rattle.records.specs.declared.alternative.Alternative.{Alternative}
use Rattle.records.specs.declared.node.Node.{Node}
use Rattle.forest.specs.Marks.{Marked}

pub record From (h : ℕ → ℕ → Bool) (next : List Bool) (x j a : ℕ) (z : Node) : Type 0 where
  pub symbol : z.symbol ≡ x
  pub from : z.from ≡ a
  pub to : z.to ≤ j
  pub fits : h a z.to ≡ true
  pub marked : Marked next z.to

pub record Between (h : ℕ → ℕ → Bool) (before next : List Bool) (x i j : ℕ) (z : Node) : Type 0 where
  pub symbol : z.symbol ≡ x
  pub low : i ≤ z.from
  pub high : z.from ≤ j
  pub to : z.to ≤ j
  pub begun : Marked before z.from
  pub fits : h z.from z.to ≡ true
  pub marked : Marked next z.to

pub record PartOf (g : Grammar) (fits : ℕ → ℕ → ℕ → Bool) (r i j n : ℕ) (z : Node) : Type 0 where
  pub part : ℕ
  pub part_in : part < n
  pub symbol : z.symbol ≡ slice_index (rhs g r) part
  pub nonterminal : g.terminals ≤ z.symbol
  pub placed : Placed g fits r i j part z.from z.to

pub record PartBelow (g : Grammar) (fits : ℕ → ℕ → ℕ → Bool) (y : Node) (n : ℕ) (z : Node) : Type 0 where
  pub rule : ℕ
  pub rule_in : rule < n
  pub left : lhs g rule ≡ y.symbol
  pub by : PartOf g fits rule y.from y.to (length (rhs g rule)) z

abbrev pub Unused : ℕ → List ℕ → Type 0
Unused p ks = (q : ℕ) → p < q → q < 8 → slice_index ks q ≡ 255

pub record Extends (g : Grammar) (fits : ℕ → ℕ → ℕ → Bool) (rows : List (List Bool)) (r j p : ℕ) (ks : List ℕ) (z : Alternative) : Type 0 where
  pub rule : z.rule ≡ r
  pub long : length z.cuts ≡ 8
  pub same : (q : ℕ) → q ≤ p → slice_index z.cuts q ≡ slice_index ks q
  pub fit : (q : ℕ) → p ≤ q → q < length (rhs g r) → part_fits g fits r q (slice_index z.cuts q) (slice_index z.cuts (q + 1)) ≡ true
  pub marked : (q : ℕ) → p < q → q ≤ length (rhs g r) → Marked (slice_index_or rows q []) (slice_index z.cuts q)
  pub within : (q : ℕ) → p < q → q ≤ length (rhs g r) → slice_index z.cuts q ≤ j
  pub unused : Unused (length (rhs g r)) z.cuts

pub record Whole (g : Grammar) (fits : ℕ → ℕ → ℕ → Bool) (r i j : ℕ) (z : Alternative) : Type 0 where
  pub rule : z.rule ≡ r
  pub long : length z.cuts ≡ 8
  pub from : get_or z.cuts 0 0 ≡ i
  pub to : get_or z.cuts (length (rhs g r)) 0 ≡ j
  pub fit : (q : ℕ) → q < length (rhs g r) → part_fits g fits r q (slice_index z.cuts q) (slice_index z.cuts (q + 1)) ≡ true
  pub unused : Unused (length (rhs g r)) z.cuts

pub record Of (g : Grammar) (fits : ℕ → ℕ → ℕ → Bool) (y : Node) (n : ℕ) (z : Alternative) : Type 0 where
  pub rule_in : z.rule < n
  pub left : lhs g z.rule ≡ y.symbol
  pub whole : Whole g fits z.rule y.from y.to z
