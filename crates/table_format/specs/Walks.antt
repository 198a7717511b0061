-- The walk that checks a table: the states in the order in which they become known, each with the row wanted, and the first fault.
--   Known                  a known state, with the row wanted of it
--   state_at ks i          the state that became known in place i, counted from 0; row_at ks i, its row
--   KnownAt ks s j         the state s is known, in place j; Knows ks s, in some place
--   NewState ks s          no known state is s
--   NewRow ks w            no known state has the row w
--   byte_at t ks i X       the step byte of the known state in place i by the symbol X
--   Walked g t ks i X r    the walk comes without a fault to where the states ks are known, all is tried of the first i of them,
--                          and of the next one the symbols below X and the rules below r
--   Outcome                how a check ends: it passes, or it refuses with a number and two places
--   Walk g t o             the walk over the table t ends with the outcome o
use Rattle.std.specs.Prelude.{◌≡◌, ℕ, suc, ◌<◌, false, ◌≢◌, List, [], ◌∷◌, ◌++◌, length, slice_index_or}
use Rattle.parsing.specs.Grammar.{Grammar, rule_count}
use Rattle.table_format.specs.ItemSets.{Items, symbols, FirstRow, NoStep, StepTo}
use Rattle.table_format.specs.Tables.{Table, wanted_mark}

pub record Known : Type 0 where
  pub state : ℕ
  pub row : Items

-- What is read past the known states.
abbrev pub blank : Known
blank = record { state = 0; row = λ r d. false }

unfoldable pub state_at : List Known → ℕ → ℕ
state_at ks i = (slice_index_or ks i blank).state

unfoldable pub row_at : List Known → ℕ → Items
row_at ks i = (slice_index_or ks i blank).row

pub record KnownAt (ks : List Known) (s j : ℕ) : Type 0 where
  pub within : j < length ks
  pub is : state_at ks j ≡ s

abbrev pub Knows : List Known → ℕ → Type 0
Knows ks s = (j : ℕ) × KnownAt ks s j

abbrev pub NewState : List Known → ℕ → Type 0
NewState ks s = (j : ℕ) → j < length ks → state_at ks j ≢ s

abbrev pub NewRow : List Known → Items → Type 0
NewRow ks w = (j : ℕ) → j < length ks → row_at ks j ≢ w

abbrev pub byte_at : Table → List Known → ℕ → ℕ → ℕ
byte_at t ks i X = t.step (state_at ks i) X

pub data Walked (g : Grammar) (t : Table) : List Known → ℕ → ℕ → ℕ → Type 0 where
  -- State 0 is known at first, with the first row.
  begin : {w : Items} → FirstRow g w → Walked g t (record { state = 0; row = w } ∷ []) 0 0 0
  -- No step is wanted, and none is there.
  none : {ks : List Known} {i X : ℕ} → Walked g t ks i X 0 → i < length ks → X < symbols g
      → NoStep g (row_at ks i) X → byte_at t ks i X ≡ 255 → Walked g t ks i (suc X) 0
  -- The step goes to a known state with the row wanted.
  met : {ks : List Known} {i X : ℕ} (j : ℕ) → Walked g t ks i X 0 → i < length ks → X < symbols g
      → StepTo g (row_at ks i) X (row_at ks j) → byte_at t ks i X ≢ 255 → KnownAt ks (byte_at t ks i X) j
      → Walked g t ks i (suc X) 0
  -- The step goes to a new state, and no known state has the row wanted: the state becomes known with that row.
  new : {ks : List Known} {i X : ℕ} {w : Items} → Walked g t ks i X 0 → i < length ks → X < symbols g
      → StepTo g (row_at ks i) X w → byte_at t ks i X ≢ 255 → NewState ks (byte_at t ks i X) → NewRow ks w
      → Walked g t (ks ++ record { state = byte_at t ks i X; row = w } ∷ []) i (suc X) 0
  -- After all symbols, the mark of a rule is the one wanted.
  mark : {ks : List Known} {i r : ℕ} → Walked g t ks i (symbols g) r → i < length ks → r < rule_count g
      → t.mark (state_at ks i) r ≡ wanted_mark g (row_at ks i) r → Walked g t ks i (symbols g) (suc r)
  -- After all rules, the walk goes on to the state that became known next.
  turn : {ks : List Known} {i : ℕ} → Walked g t ks i (symbols g) (rule_count g) → i < length ks → Walked g t ks (suc i) 0 0

pub data Outcome : Type 0 where
  passes : Outcome
  refuses : ℕ → ℕ → ℕ → Outcome

pub data Walk (g : Grammar) (t : Table) : Outcome → Type 0 where
  -- Every known state is tried without a fault, and every state is known.
  all_right : {ks : List Known} → Walked g t ks (length ks) 0 0 → ((s : ℕ) → s < t.states → Knows ks s) → Walk g t passes
  -- A step where none is wanted.
  step_where_none : {ks : List Known} {i X : ℕ} → Walked g t ks i X 0 → i < length ks → X < symbols g
      → NoStep g (row_at ks i) X → byte_at t ks i X ≢ 255 → Walk g t (refuses 24 (state_at ks i) X)
  -- No step where one is wanted.
  step_lacking : {ks : List Known} {i X : ℕ} {w : Items} → Walked g t ks i X 0 → i < length ks → X < symbols g
      → StepTo g (row_at ks i) X w → byte_at t ks i X ≡ 255 → Walk g t (refuses 25 (state_at ks i) X)
  -- A step to a known state with another row than the one wanted.
  other_row : {ks : List Known} {i X : ℕ} {w : Items} (j : ℕ) → Walked g t ks i X 0 → i < length ks → X < symbols g
      → StepTo g (row_at ks i) X w → byte_at t ks i X ≢ 255 → KnownAt ks (byte_at t ks i X) j → row_at ks j ≢ w
      → Walk g t (refuses 26 (state_at ks i) X)
  -- A step to a new state, while a known state has the row wanted.
  known_row : {ks : List Known} {i X : ℕ} {w : Items} (j : ℕ) → Walked g t ks i X 0 → i < length ks → X < symbols g
      → StepTo g (row_at ks i) X w → byte_at t ks i X ≢ 255 → NewState ks (byte_at t ks i X) → j < length ks → row_at ks j ≡ w
      → Walk g t (refuses 27 (state_at ks i) X)
  -- A mark that is not the one wanted.
  mark_wrong : {ks : List Known} {i r : ℕ} → Walked g t ks i (symbols g) r → i < length ks → r < rule_count g
      → t.mark (state_at ks i) r ≢ wanted_mark g (row_at ks i) r → Walk g t (refuses 28 (state_at ks i) r)
  -- All known states are tried, and s is the lowest that is not known.
  never_reached : {ks : List Known} (s : ℕ) → Walked g t ks (length ks) 0 0 → s < t.states → NewState ks s
      → ((u : ℕ) → u < s → Knows ks u) → Walk g t (refuses 29 s 0)
