-- Table sheets: the bytes of a table, and the table that any bytes say.
--   states_told b     how many states the header of the bytes b tells; likewise symbols_told and rules_told
--   marks_at M K      the offset of the done marks of M states over K symbols
--   ends_at M K R     the length of the sheet of M states over K symbols and R rules
--   table_of b        the table that the bytes b say
--   grid f m n        f 0 0, f 0 1 and so on: m rows of n values, row after row
--   table_bytes g t   the whole sheet of the table t for the grammar g: the header, the steps, the done marks
--   Form g b          the bytes b have the form of a table sheet for the grammar g
use Rattle.std.specs.Prelude.{◌≡◌, ℕ, zero, suc, ◌+◌, ◌*◌, ◌<◌, ◌≤◌, ◌≢◌, List, [], ◌++◌, length, slice_index}
use Rattle.parsing.specs.Grammar.{Grammar, rule_count}
use Rattle.grammar_format.specs.Sheets.{wide}
use Rattle.grammar_format.specs.Fields.{number, listed}
use Rattle.table_format.specs.ItemSets.{symbols}
use Rattle.table_format.specs.Tables.{Table}

abbrev pub states_told : List ℕ → ℕ
states_told b = number b 2

abbrev pub symbols_told : List ℕ → ℕ
symbols_told b = number b 4

abbrev pub rules_told : List ℕ → ℕ
rules_told b = number b 6

abbrev pub marks_at : ℕ → ℕ → ℕ
marks_at M K = 12 + M * K

abbrev pub ends_at : ℕ → ℕ → ℕ → ℕ
ends_at M K R = marks_at M K + M * R

-- The step bytes stand state after state, in each by symbols; behind them the marks, by rules.
unfoldable pub table_of : List ℕ → Table
table_of b =
    record {
      states = states_told b;
      step = λ s X. slice_index b (12 + (s * symbols_told b + X));
      mark = λ s r. slice_index b (marks_at (states_told b) (symbols_told b) + (s * rules_told b + r));
    }

unfoldable pub grid : (ℕ → ℕ → ℕ) → ℕ → ℕ → List ℕ
grid f zero n = []
grid f (suc m) n = grid f m n ++ listed (f m) n

-- Six numbers: the whole length; how many states, symbols and rules; the offsets of the steps and of the done marks.
abbrev pub header_bytes : ℕ → ℕ → ℕ → List ℕ
header_bytes M K R = wide (ends_at M K R) ++ (wide M ++ (wide K ++ (wide R ++ (wide 12 ++ wide (marks_at M K)))))

unfoldable pub table_bytes : Grammar → Table → List ℕ
table_bytes g t =
    header_bytes t.states (symbols g) (rule_count g)
    ++ (grid t.step t.states (symbols g) ++ grid t.mark t.states (rule_count g))

pub record Form (g : Grammar) (b : List ℕ) : Type 0 where
  pub twelve : 12 ≤ length b
  pub whole : number b 0 ≡ length b
  pub some_states : 1 ≤ states_told b
  pub few_states : states_told b ≤ 255
  pub same_symbols : symbols_told b ≡ symbols g
  pub same_rules : rules_told b ≡ rule_count g
  pub steps_offset : number b 8 ≡ 12
  pub marks_offset : number b 10 ≡ marks_at (states_told b) (symbols_told b)
  pub counted : length b ≡ ends_at (states_told b) (symbols_told b) (rules_told b)
  -- A step byte is a state or 255, and a mark byte is 0 or 1.
  pub step_bytes : (p : ℕ) → 12 ≤ p → p < marks_at (states_told b) (symbols_told b) → slice_index b p ≢ 255 → slice_index b p < states_told b
  pub mark_bytes : (p : ℕ) → marks_at (states_told b) (symbols_told b) ≤ p → p < ends_at (states_told b) (symbols_told b) (rules_told b)
      → slice_index b p ≤ 1
