-- What trying a symbol or a rule comes to, and what the walk stops with.
--   stands_in f          the state whose step or mark the fault f speaks of
--   InNone f             the fault f is in no state
--   InState ks i f       the fault f is in the known state in place i
--   TriedIn ks i r       where the trial r ends the walk, its fault is in the known state in place i
--   Along c ks i X r     the walk over the table that c claims comes without a fault to where the states ks are known, to the symbol X and
--                        the rule r of the one in place i
--   Tries c ks i X r     where it is at the symbol X of the known state in place i, the trial r says how it goes on: with one more known
--                        state or none, or to its end
--   Wants g t s w        the walk over the table t comes without a fault to where the state s is known with the row w
--   RowOf g t s w        where the fault is in the state s, w is the row that the walk wants of it; none without such a state
--   Halts g t e          the walk over the table t ends with the fault of the finding e, and e has the row of the state that it is in
use Rattle.std.specs.Prelude.{◌≡◌, ℕ, ◌+◌, List, [], ◌∷◌, ◌++◌, Some, None, Option, Ok, Err, Result}
use Rattle.parsing.specs.Grammar.{Grammar}
use Rattle.grammar.specs.Meaning.{meaning}
use Rattle.states.specs.Refusals.{outcome}
use Rattle.states.specs.declared.fault.TableFault.{TableFault}
use Rattle.states.specs.declared.fault.TableFault.TheVariants.{WholeLength, CountRange, Offset, ByteRange, StepWhereNone, StepLacking}
use Rattle.states.specs.declared.fault.TableFault.TheVariants.{OtherRow, KnownRow, MarkWrong, NeverReached, TooManyStates, RoomShort}
use Rattle.rows.specs.declared.row.Row.{Row}
use Rattle.rows.specs.Rows.{items}
use Rattle.table_format.specs.ItemSets.{Items}
use Rattle.table_format.specs.Tables.{Table}
use Rattle.table_format.specs.Sheets.{table_of}
use Rattle.table_format.specs.Walks.{Known, state_at, row_at, KnownAt, Walked, Walk}
use Rattle.tables.specs.declared.finding.Finding.{Finding}
use Rattle.tables.specs.declared.claim.Claim.{Claim}
use Rattle.tables.specs.declared.known.Known.{Known as Kept}
use Rattle.tables.specs.Lists.{known_of}

abbrev pub stands_in : TableFault → Option ℕ
stands_in WholeLength = None
stands_in CountRange = None
stands_in Offset = None
stands_in (ByteRange o) = None
stands_in (StepWhereNone s X) = Some s
stands_in (StepLacking s X) = Some s
stands_in (OtherRow s X) = Some s
stands_in (KnownRow s X) = Some s
stands_in (MarkWrong s r) = Some s
stands_in (NeverReached s) = None
stands_in TooManyStates = None
stands_in (RoomShort n) = None

abbrev pub InNone : TableFault → Type 0
InNone f = stands_in f ≡ None

abbrev pub InState : List Known → ℕ → TableFault → Type 0
InState ks i f = stands_in f ≡ Some (state_at ks i)

abbrev pub TriedIn : List Known → ℕ → Result (Option Kept) TableFault → Type 0
TriedIn ks i (Ok o) = Unit {0}
TriedIn ks i (Err f) = InState ks i f

abbrev pub Along : Claim → List Known → ℕ → ℕ → ℕ → Type 0
Along c ks i X r = Walked (meaning c.grammar.now) (table_of c.sheet.now) ks i X r

abbrev pub Tries : Claim → List Known → ℕ → ℕ → Result (Option Kept) TableFault → Type 0
Tries c ks i X (Ok None) = Along c ks i (X + 1) 0
Tries c ks i X (Ok (Some k)) = Along c (ks ++ known_of k ∷ []) i (X + 1) 0
Tries c ks i X (Err f) = Walk (meaning c.grammar.now) (table_of c.sheet.now) (outcome f)

pub record Wants (g : Grammar) (t : Table) (s : ℕ) (w : Items) : Type 0 where
  pub known : List Known
  pub place : ℕ
  pub symbol : ℕ
  pub rule : ℕ
  pub walked : Walked g t known place symbol rule
  pub at : ℕ
  pub knows : KnownAt known s at
  pub row : row_at known at ≡ w

abbrev pub RowOf : Grammar → Table → Option ℕ → Option Row → Type 0
RowOf g t (Some s) (Some w) = Wants g t s (items w)
RowOf g t (Some s) None = ⊥
RowOf g t None (Some w) = ⊥
RowOf g t None None = Unit {0}

pub record Halts (g : Grammar) (t : Table) (e : Finding) : Type 0 where
  pub ends : Walk g t (outcome e.fault)
  pub row : RowOf g t (stands_in e.fault) e.row
