-- A fault of a table sheet in words.
--   length_line b          on the length of the bytes b
--   counts_line g b        on the counts that the header of b tells, and those of the grammar g
--   offsets_line b         on the offsets that it tells, and those that its counts want
--   byte_line s b p        on the byte of b at the offset p, for the grammar of the sheet s
--   step_at b t X          the step byte of the state t by the symbol X in b; mark_at b t r, its mark byte for the rule r
--   steps_to s b t X       that the state t steps by the symbol X to the state that b tells
--   where_none s b t X, lacking s t X, other_row s b t X, known_row s b t X   on that step
--   mark_line s b t r      on the done mark of the state t for the rule r
--   fault_line s b f       on the fault f of the bytes b
--   state_items s o v      the items v of the state o, where both are there
--   wanted_items s w       the items w of the state that is wanted, if they are there
--   broken f               the rule that the fault f breaks
--   explanation s b f v w  the line on the fault f, the items of the state that it is in, those of the state wanted, and the rule
--   symbol_in f            the symbol whose step the fault f speaks of
--   WantedOf g o v w       w is the step of the row v by the symbol o; none where there is no such step, or not both are there
use Rattle.std.specs.Prelude.{◌≡◌, ℕ, ◌-◌, ◌/◌, ◌%◌, cond, List, [], ◌++◌, length, codes, decimal, Some, None, Option, MatchOption, ◌==◌, nat_lt, slice_index}
use Rattle.parsing.specs.Grammar.{Grammar, rule_count}
use Rattle.grammar_format.specs.Fields.{number}
use Rattle.grammar_format.specs.Sheets.{Sheet}
use Rattle.inspection.specs.Names.{symbol_name}
use Rattle.inspection.specs.Rules.{rule_text}
use Rattle.rows.specs.Rows.{items}
use Rattle.rows.specs.declared.row.Row.{Row}
use Rattle.states.specs.declared.fault.TableFault.{TableFault}
use Rattle.states.specs.declared.fault.TableFault.TheVariants.{WholeLength, CountRange, Offset, ByteRange, StepWhereNone, StepLacking}
use Rattle.states.specs.declared.fault.TableFault.TheVariants.{OtherRow, KnownRow, MarkWrong, NeverReached, TooManyStates, RoomShort}
use Rattle.table_format.specs.ItemSets.{symbols, NoStep, StepTo}
use Rattle.table_format.specs.Sheets.{states_told, symbols_told, rules_told, marks_at, ends_at, table_of}
use Rattle.tables.specs.Trying.{stands_in}
use Rattle.table_text.specs.Items.{row_text}

-- Bytes that are too few for a header.
abbrev pub if_short : List ℕ → List ℕ → List ℕ → List ℕ
if_short b x y = cond (nat_lt (length b) 12) x y

abbrev pub length_line : List ℕ → List ℕ
length_line b =
    if_short b
    (codes "The length of the sheet is " ++ (decimal (length b) ++ codes ", too little for a header.\n"))
    (codes "The length of the sheet is " ++ (decimal (length b) ++ (codes ", and its header tells " ++ (decimal (number b 0) ++ codes ".\n"))))

abbrev pub counts_line : Grammar → List ℕ → List ℕ
counts_line g b =
    if_short b (length_line b)
    (codes "The header tells states: " ++ (decimal (states_told b) ++ (codes ", symbols: " ++ (decimal (symbols_told b) ++ (codes ", rules: "
    ++ (decimal (rules_told b) ++ (codes "; the grammar has symbols: " ++ (decimal (symbols g) ++ (codes ", rules: " ++ (decimal (rule_count g) ++ codes ".\n"))))))))))

abbrev pub offsets_line : List ℕ → List ℕ
offsets_line b =
    if_short b (length_line b)
    (codes "The header tells steps from byte " ++ (decimal (number b 8) ++ (codes " on and done marks from byte " ++ (decimal (number b 10)
    ++ (codes " on, and the length of the sheet is " ++ (decimal (length b) ++ (codes "; by its counts these are 12, "
    ++ (decimal (marks_at (states_told b) (symbols_told b)) ++ (codes " and "
    ++ (decimal (ends_at (states_told b) (symbols_told b) (rules_told b)) ++ codes ".\n"))))))))))

abbrev pub byte_is : List ℕ → ℕ → List ℕ → List ℕ
byte_is b p rest = codes "Byte " ++ (decimal p ++ (codes " is " ++ (decimal (slice_index b p) ++ rest)))

abbrev pub byte_line : Sheet → List ℕ → ℕ → List ℕ
byte_line s b p =
    if_short b (byte_is b p (codes ".\n"))
    (cond (nat_lt p (number b 10))
    (byte_is b p (codes ": the step of state " ++ (decimal ((p - 12) / symbols s.grammar) ++ (codes " by `" ++ (symbol_name s ((p - 12) % symbols s.grammar)
    ++ (codes "`. The number of states is " ++ (decimal (states_told b) ++ codes ".\n")))))))
    (byte_is b p (codes ": the done mark of state " ++ (decimal ((p - number b 10) / rule_count s.grammar) ++ (codes " for rule "
    ++ (decimal ((p - number b 10) % rule_count s.grammar) ++ codes ".\n"))))))

unfoldable pub step_at : List ℕ → ℕ → ℕ → ℕ
step_at b t X = (table_of b).step t X

unfoldable pub mark_at : List ℕ → ℕ → ℕ → ℕ
mark_at b t r = (table_of b).mark t r

abbrev pub steps_to : Sheet → List ℕ → ℕ → ℕ → List ℕ
steps_to s b t X =
    codes "State " ++ (decimal t ++ (codes " steps by `" ++ (symbol_name s X ++ (codes "` to state " ++ decimal (step_at b t X)))))

-- A rule that the grammar does not have is not shown.
abbrev pub rule_shown : Sheet → ℕ → List ℕ
rule_shown s r = cond (nat_lt r (rule_count s.grammar)) (rule_text s r) []

abbrev pub mark_line : Sheet → List ℕ → ℕ → ℕ → List ℕ
mark_line s b t r =
    codes "State " ++ (decimal t ++ (codes " has the done mark " ++ (decimal (mark_at b t r) ++ (codes " for rule " ++ (decimal r ++ (codes ", `"
    ++ (rule_shown s r ++ (codes "`, and " ++ (decimal (cond (mark_at b t r == 0) 1 0) ++ codes " is wanted.\n")))))))))

abbrev pub where_none : Sheet → List ℕ → ℕ → ℕ → List ℕ
where_none s b t X =
    steps_to s b t X ++ (codes ", and no step is wanted: `" ++ (symbol_name s X ++ codes "` comes next in none of its items.\n"))

abbrev pub lacking : Sheet → ℕ → ℕ → List ℕ
lacking s t X =
    codes "State " ++ (decimal t ++ (codes " has no step by `" ++ (symbol_name s X ++ (codes "`, and one is wanted: `" ++ (symbol_name s X
    ++ codes "` comes next in its items.\n")))))

abbrev pub other_row : Sheet → List ℕ → ℕ → ℕ → List ℕ
other_row s b t X = steps_to s b t X ++ codes ", which is known with other items than those wanted.\n"

abbrev pub known_row : Sheet → List ℕ → ℕ → ℕ → List ℕ
known_row s b t X = steps_to s b t X ++ codes ", which is new, while another state has the items wanted.\n"

abbrev pub fault_line : Sheet → List ℕ → TableFault → List ℕ
fault_line s b WholeLength = length_line b
fault_line s b CountRange = counts_line s.grammar b
fault_line s b Offset = offsets_line b
fault_line s b (ByteRange p) = byte_line s b p
fault_line s b (StepWhereNone t X) = where_none s b t X
fault_line s b (StepLacking t X) = lacking s t X
fault_line s b (OtherRow t X) = other_row s b t X
fault_line s b (KnownRow t X) = known_row s b t X
fault_line s b (MarkWrong t r) = mark_line s b t r
fault_line s b (NeverReached t) = codes "State " ++ (decimal t ++ codes " is not reached from state 0 by any steps.\n")
fault_line s b TooManyStates = codes "The grammar has more than 255 LR(0) item sets.\n"
fault_line s b (RoomShort n) = codes "The room to write the sheet has fewer than " ++ (decimal n ++ codes " bytes.\n")

abbrev pub state_items : Sheet → Option ℕ → Option Row → List ℕ
state_items s None v = []
state_items s (Some t) None = []
state_items s (Some t) (Some v) = codes "The items of state " ++ (decimal t ++ (codes ":\n" ++ row_text s (items v)))

abbrev pub wanted_items : Sheet → Option Row → List ℕ
wanted_items s None = []
wanted_items s (Some w) = codes "The items of the state wanted:\n" ++ row_text s (items w)

abbrev pub broken : TableFault → List ℕ
broken WholeLength = codes "A header has 12 bytes, and its first number is the length of the whole sheet."
broken CountRange = codes "A table has 1 to 255 states, and as many symbols and rules as its grammar."
broken Offset =
    codes "The steps begin at byte 12, one for each state and symbol; the done marks follow them, one for each state and rule, and end the sheet."
broken (ByteRange p) = codes "A step is a state, or 255 where there is none. A done mark is 0 or 1."
broken (StepWhereNone t X) = codes "A state has a step by each symbol that comes next in its items, and by no other."
broken (StepLacking t X) = codes "A state has a step by each symbol that comes next in its items, and by no other."
broken (OtherRow t X) = codes "A step by a symbol leads to the state of the items in which the symbol is passed, completed."
broken (KnownRow t X) = codes "No two states have the same items."
broken (MarkWrong t r) = codes "A done mark is 1 where the state has an item with the rule wholly passed, and 0 elsewhere."
broken (NeverReached t) = codes "Every state is reached from state 0 by steps."
broken TooManyStates = codes "A table has 1 to 255 states, one for each item set."
broken (RoomShort n) = codes "A sheet is written whole or not at all."

abbrev pub explanation : Sheet → List ℕ → TableFault → Option Row → Option Row → List ℕ
explanation s b f v w = fault_line s b f ++ (state_items s (stands_in f) v ++ (wanted_items s w ++ (broken f ++ codes "\n")))

abbrev pub symbol_in : TableFault → Option ℕ
symbol_in WholeLength = None
symbol_in CountRange = None
symbol_in Offset = None
symbol_in (ByteRange p) = None
symbol_in (StepWhereNone t X) = Some X
symbol_in (StepLacking t X) = Some X
symbol_in (OtherRow t X) = Some X
symbol_in (KnownRow t X) = Some X
symbol_in (MarkWrong t r) = None
symbol_in (NeverReached t) = None
symbol_in TooManyStates = None
symbol_in (RoomShort n) = None

abbrev pub WantedOf : Grammar → Option ℕ → Option Row → Option Row → Type 0
WantedOf g None v w = w ≡ None
WantedOf g (Some X) None w = w ≡ None
WantedOf g (Some X) (Some v) w = MatchOption w (NoStep g (items v) X) (λ u. StepTo g (items v) X (items u))
