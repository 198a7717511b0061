-- LR(0) automata written out: the rows of their states, and their steps.
--   Transition         a step: the state `state` steps by `symbol` to the state `to`
--   Automaton          a grammar, the rows of the states 0, 1 and so on, and the steps; of a row the first bytes are told, and the others are 0
--   states a           how many states there are
--   row_bytes w        the 64 bytes of the row that begins with the bytes w
--   row a s            the items of the row of the state s
--   step_byte ts s X   the state that s steps to by X, or 255 where no step of ts tells one
--   table a            the automaton as a table of states; source a, as a source of states
--   RowsAre a          the rows are the LR(0) item sets, each once and no others, so that there are as many as states, and the row of the
--                      state 0 is the first
--   IsStep a t         t is the step of one row to another
--   StepsAre a         the steps are all steps between the rows and no others, each once, and the source answers them and no others
--   known_states a     the states 0, 1 and so on, each known with its row
--   InOrder a          the walk over the table passes, and meets the states in the order of their numbers
use Rattle.std.specs.Prelude.{◌≡◌, ℕ, ◌-◌, ◌<◌, cond, ◌&&◌, ◌↔◌, List, [], ◌∷◌, ◌++◌, length, replicate, Some, ◌==◌, slice_index_or}
use Rattle.parsing.specs.Grammar.{Grammar}
use Rattle.parsing.specs.Items.{Source}
use Rattle.parsing.specs.Rows.{has, IsRow}
use Rattle.grammar_format.specs.Fields.{listed}
use Rattle.table_format.specs.ItemSets.{Items, FirstRow, StepTo}
use Rattle.table_format.specs.Tables.{Table, wanted_mark, EachOnce, SetCount, source_of}
use Rattle.table_format.specs.Walks.{Known, Walked, Walk, passes}
use Rattle.link_growth.specs.Entries.{Mem, Once}

pub record Transition : Type 0 where
  pub state : ℕ
  pub symbol : ℕ
  pub to : ℕ

pub record Automaton : Type 0 where
  pub grammar : Grammar
  pub rows : List (List ℕ)
  pub steps : List Transition

abbrev pub states : Automaton → ℕ
states a = length a.rows

abbrev pub row_bytes : List ℕ → List ℕ
row_bytes w = w ++ replicate (64 - length w) 0

abbrev pub row : Automaton → ℕ → Items
row a s = has (row_bytes (slice_index_or a.rows s []))

abbrev pub step_byte : List Transition → ℕ → ℕ → ℕ
step_byte [] s X = 255
step_byte (t ∷ ts) s X = cond (t.state == s && t.symbol == X) t.to (step_byte ts s X)

-- A rule is done in a state whose row has it wholly passed.
abbrev pub table : Automaton → Table
table a = record {
  states = states a;
  step = step_byte a.steps;
  mark = λ s r. wanted_mark a.grammar (row a s) r;
}

abbrev pub source : Automaton → Source
source a = source_of a.grammar (table a) (row a)

pub record RowsAre (a : Automaton) : Type 0 where
  pub bytes : (s : ℕ) → s < states a → IsRow (row_bytes (slice_index_or a.rows s []))
  pub each_once : EachOnce a.grammar (listed (row a) (states a))
  pub count : SetCount a.grammar (states a)
  pub first : FirstRow a.grammar (row a 0)

pub record IsStep (a : Automaton) (t : Transition) : Type 0 where
  pub from_in : t.state < states a
  pub to_in : t.to < states a
  pub step : StepTo a.grammar (row a t.state) t.symbol (row a t.to)

pub record StepsAre (a : Automaton) : Type 0 where
  pub once : Once a.steps
  pub steps : (t : Transition) → IsStep a t ↔ Mem t a.steps
  pub answers : (t : Transition) → ((source a).next t.state t.symbol ≡ Some t.to) ↔ Mem t a.steps

abbrev pub known_states : Automaton → List Known
known_states a = listed (λ s. record { state = s; row = row a s }) (states a)

pub record InOrder (a : Automaton) : Type 0 where
  pub walked : Walked a.grammar (table a) (known_states a) (states a) 0 0
  pub passed : Walk a.grammar (table a) passes
