-- Items, their closure, and sources of LR(0) states.
-- An item (r, d) is the rule r with a dot before its right symbol d, or at the end where d is their number.
--   Next g r d X       the symbol X comes next in the item (r, d): it stands behind the dot
--   Closure g I r d    the item (r, d) is in the closure of the items I
--   Source             states, their rows of items and the steps between them, over a grammar
--   In src b r d       the item (r, d) is in the row of the state b
--   Initial r d        (r, d) is the item (0, 0), the kernel of the first state
--   Step src b X r d   the item (r, d) is in the kernel of the step of the state b by the symbol X
--   Lawful src         the states of src that steps reach from the first are the LR(0) states of its grammar; there may be others
use Rattle.std.specs.Prelude.{◌≡◌, ℕ, suc, ◌<◌, Bool, true, ◌↔◌, length, Some, None, Option, slice_index}
use Rattle.parsing.specs.Grammar.{Grammar, rule_count, lhs, rhs}

pub record Next (g : Grammar) (r d X : ℕ) : Type 0 where
  pub rule_in : r < rule_count g
  pub dot_in : d < length (rhs g r)
  pub symbol : slice_index (rhs g r) d ≡ X

-- The least set of items that holds I and predicts, from its start, each rule whose left symbol comes next.
pub data Closure (g : Grammar) (I : ℕ → ℕ → Type 0) : ℕ → ℕ → Type 0 where
  kernel : {r d : ℕ} → I r d → Closure g I r d
  predict : {r d : ℕ} (q : ℕ) → Closure g I r d → q < rule_count g → Next g r d (lhs g q) → Closure g I q 0

-- States are numbers below `states`, and `first` is one of them. `next b X` is the step of b by X, if b has one; `has b r d` tests
-- whether the row of b has the item (r, d), and `done b r` whether it has the rule r with its dot at the end.
pub record Source : Type 0 where
  pub grammar : Grammar
  pub states : ℕ
  pub first : ℕ
  pub next : ℕ → ℕ → Option ℕ
  pub has : ℕ → ℕ → ℕ → Bool
  pub done : ℕ → ℕ → Bool

abbrev pub In : Source → ℕ → ℕ → ℕ → Type 0
In src b r d = src.has b r d ≡ true

pub record Initial (r d : ℕ) : Type 0 where
  pub rule_zero : r ≡ 0
  pub dot_zero : d ≡ 0

-- An item of b that has X next, with its dot moved over X.
pub record Step (src : Source) (b X r d : ℕ) : Type 0 where
  pub dot : ℕ
  pub moved : d ≡ suc dot
  pub before : In src b r dot
  pub over : Next src.grammar r dot X

-- Each row is the closure of its kernel, a step is missing only where its kernel is empty, and no two states have the same row.
pub record Lawful (src : Source) : Type 0 where
  pub first_in : src.first < src.states
  pub next_in : (b X s : ℕ) → b < src.states → src.next b X ≡ Some s → s < src.states
  pub first_row : (r d : ℕ) → In src src.first r d ↔ Closure src.grammar Initial r d
  pub next_row : (b X s : ℕ) → b < src.states → src.next b X ≡ Some s
      → (r d : ℕ) → In src s r d ↔ Closure src.grammar (Step src b X) r d
  pub next_none : (b X : ℕ) → b < src.states
      → (src.next b X ≡ None) ↔ ((r d : ℕ) → In src b r d → Next src.grammar r d X → ⊥)
  pub done_row : (t r : ℕ) → t < src.states → r < rule_count src.grammar
      → src.done t r ≡ src.has t r (length (rhs src.grammar r))
  pub rows_apart : (s t : ℕ) → s < src.states → t < src.states → ((r d : ℕ) → src.has s r d ≡ src.has t r d) → s ≡ t
