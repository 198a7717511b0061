-- Rows of items, their steps, and the LR(0) item sets of a grammar.
--   Items             a row: it tells of each item (r, d) whether it is in the row
--   symbols g         how many symbols there are: the terminals, and behind them the nonterminals
--   RightSides g      the right sides of the rules name symbols of the grammar
--   Completed g I w   the row w is the completed kernel I
--   FirstRow g w      w is the first row, the completed {(0, 0)}
--   Moved g v X r d   the item (r, d) is one of v that has X next, with X passed
--   Moves g v X       X comes next in some item of v
--   NoStep g v X      the step of the row v by X is none
--   StepTo g v X w    the step of the row v by X is w
--   ItemSet g w       the row w is an LR(0) item set
use Rattle.std.specs.Prelude.{◌≡◌, ℕ, suc, ◌+◌, ◌<◌, Bool, true, ◌↔◌, length, slice_index}
use Rattle.parsing.specs.Grammar.{Grammar, rule_count, rhs}
use Rattle.parsing.specs.Items.{Next, Closure, Initial}

-- Two rows are equal when they tell the same of every item.
abbrev pub Items : Type 0
Items = ℕ → ℕ → Bool

abbrev pub symbols : Grammar → ℕ
symbols g = g.terminals + g.nonterminals

abbrev pub RightSides : Grammar → Type 0
RightSides g = (r d : ℕ) → r < rule_count g → d < length (rhs g r) → slice_index (rhs g r) d < symbols g

-- Only that an item is in the closure, and not by which predictions: so a row is completed in one way at most.
abbrev pub Completed : Grammar → (ℕ → ℕ → Type 0) → Items → Type 0
Completed g I w = (r d : ℕ) → (w r d ≡ true) ↔ ∥ Closure g I r d ∥₁

abbrev pub FirstRow : Grammar → Items → Type 0
FirstRow g w = Completed g Initial w

pub record Moved (g : Grammar) (v : Items) (X r d : ℕ) : Type 0 where
  pub dot : ℕ
  pub moved : d ≡ suc dot
  pub before : v r dot ≡ true
  pub over : Next g r dot X

pub record Moves (g : Grammar) (v : Items) (X : ℕ) : Type 0 where
  pub rule : ℕ
  pub dot : ℕ
  pub inside : v rule dot ≡ true
  pub next : Next g rule dot X

abbrev pub NoStep : Grammar → Items → ℕ → Type 0
NoStep g v X = (r d : ℕ) → v r d ≡ true → Next g r d X → ⊥

-- X comes next in some item of v, and w is the completed items with X passed.
pub record StepTo (g : Grammar) (v : Items) (X : ℕ) (w : Items) : Type 0 where
  pub moves : ∥ Moves g v X ∥₁
  pub row : Completed g (Moved g v X) w

-- The first row, and every step of an item set.
pub data ItemSet (g : Grammar) : Items → Type 0 where
  first : {w : Items} → FirstRow g w → ItemSet g w
  step : {v w : Items} (X : ℕ) → ItemSet g v → StepTo g v X w → ItemSet g w
