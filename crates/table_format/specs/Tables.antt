-- Tables of states: their steps and done marks, and when these are those of the LR(0) item sets.
--   Table                      how many states there are, their step bytes and their mark bytes
--   Ranged g t                 there are 1 to 255 states, and each step byte is a state or 255
--   wholly g w r               the row w has the rule r wholly passed
--   wanted_mark g w r          the mark byte that the row w wants for the rule r
--   RightStep g M rows v X b   b is the step byte of the row v by X, where M states have these rows
--   Matches g t rows           with these rows the states of t match the LR(0) item sets, and all steps and marks are theirs
--   Alike g t u                the tables t and u agree on all states, symbols and rules
--   EachOnce g ws              the list of rows ws holds each LR(0) item set once, and no other row
--   SetCount g n               there are n LR(0) item sets: some list holds each once, and every such list has n rows
--   source_of g t rows         the source of states that a table and the rows of its states make
--   Bounded src                outside the ranges the source answers none and no
use Rattle.std.specs.Prelude.{◌≡◌, ℕ, ◌<◌, ◌≤◌, Bool, true, false, cond, ◌&&◌, ◌≢◌, ◌⊎◌, List, length, Some, None, Option, ◌==◌, nat_lt, slice_index_or}
use Rattle.parsing.specs.Grammar.{Grammar, rule_count, rhs}
use Rattle.parsing.specs.Items.{Source}
use Rattle.table_format.specs.ItemSets.{Items, symbols, FirstRow, NoStep, StepTo, ItemSet}

-- `step s X` is the state that s steps to by X, or 255 for none; `mark s r` is 1 where the rule r is done in s, else 0.
pub record Table : Type 0 where
  pub states : ℕ
  pub step : ℕ → ℕ → ℕ
  pub mark : ℕ → ℕ → ℕ

pub record Ranged (g : Grammar) (t : Table) : Type 0 where
  pub some_states : 1 ≤ t.states
  pub few_states : t.states ≤ 255
  pub step_in : (s X : ℕ) → s < t.states → X < symbols g → t.step s X ≢ 255 → t.step s X < t.states

abbrev pub wholly : Grammar → Items → ℕ → Bool
wholly g w r = w r (length (rhs g r))

abbrev pub wanted_mark : Grammar → Items → ℕ → ℕ
wanted_mark g w r = cond (wholly g w r) 1 0

abbrev pub RightStep : Grammar → ℕ → (ℕ → Items) → Items → ℕ → ℕ → Type 0
RightStep g M rows v X b = ((b ≡ 255) × NoStep g v X) ⊎ ((b < M) × StepTo g v X (rows b))

-- The matching is one to one, and state 0 goes with the first row.
pub record Matches (g : Grammar) (t : Table) (rows : ℕ → Items) : Type 0 where
  pub item_sets : (s : ℕ) → s < t.states → ∥ ItemSet g (rows s) ∥₁
  pub one-to-one : (s u : ℕ) → s < t.states → u < t.states → rows s ≡ rows u → s ≡ u
  pub onto : (w : Items) → ItemSet g w → (s : ℕ) × (s < t.states) × (rows s ≡ w)
  pub zero_first : FirstRow g (rows 0)
  pub steps : (s X : ℕ) → s < t.states → X < symbols g → RightStep g t.states rows (rows s) X (t.step s X)
  pub marks : (s r : ℕ) → s < t.states → r < rule_count g → t.mark s r ≡ wanted_mark g (rows s) r

pub record Alike (g : Grammar) (t u : Table) : Type 0 where
  pub states_are : t.states ≡ u.states
  pub steps_are : (s X : ℕ) → s < u.states → X < symbols g → t.step s X ≡ u.step s X
  pub marks_are : (s r : ℕ) → s < u.states → r < rule_count g → t.mark s r ≡ u.mark s r

-- The row in the place k of a list.
abbrev pub row_of : List Items → ℕ → Items
row_of ws k = slice_index_or ws k (λ r d. false)

pub record EachOnce (g : Grammar) (ws : List Items) : Type 0 where
  pub item_sets : (k : ℕ) → k < length ws → ∥ ItemSet g (row_of ws k) ∥₁
  pub all : (w : Items) → ItemSet g w → ∥ ((k : ℕ) × (k < length ws) × (row_of ws k ≡ w)) ∥₁
  pub apart : (k l : ℕ) → k < length ws → l < length ws → row_of ws k ≡ row_of ws l → k ≡ l

pub record SetCount (g : Grammar) (n : ℕ) : Type 0 where
  pub some : ∥ ((ws : List Items) × EachOnce g ws) ∥₁
  pub every : (ws : List Items) → EachOnce g ws → length ws ≡ n

-- The answer of `next`: the step byte, where the test says that it is one.
abbrev pub answered : Bool → ℕ → Option ℕ
answered true b = Some b
answered false b = None

unfoldable pub source_of : Grammar → Table → (ℕ → Items) → Source
source_of g t rows =
    record {
      grammar = g;
      states = t.states;
      first = 0;
      next = λ s X. answered (nat_lt s t.states && (nat_lt X (symbols g) && nat_lt (t.step s X) 255)) (t.step s X);
      has = λ s r d. nat_lt s t.states && rows s r d;
      done = λ s r. nat_lt s t.states && (nat_lt r (rule_count g) && t.mark s r == 1);
    }

pub record Bounded (src : Source) : Type 0 where
  pub next_outside : (s X : ℕ) → (src.states ≤ s) ⊎ (symbols src.grammar ≤ X) → src.next s X ≡ None
  pub done_outside : (s r : ℕ) → (src.states ≤ s) ⊎ (rule_count src.grammar ≤ r) → src.done s r ≡ false
