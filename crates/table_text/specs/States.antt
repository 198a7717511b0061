-- States and tables in readable notation.
--   step_line s o X       a line for the step o by the symbol X of the sheet s, if there is one
--   step_lines s src b    the steps of the state b of the source src, a line for each
--   state_text s src b    the state b of the source src: its number, its items, and its steps, a line for each
--   state_part s src b    the same; nothing where b is no state of src
--   state_texts s src     the states of src, one after another
--   text_of_table s src      how many states there are, and each of them
use Rattle.std.specs.Prelude.{ℕ, cond, List, [], ◌++◌, Some, None, codes, decimal, Option, nat_lt}
use Rattle.parsing.specs.Items.{Source}
use Rattle.grammar_format.specs.Sheets.{Sheet}
use Rattle.table_format.specs.ItemSets.{symbols}
use Rattle.inspection.specs.Names.{symbol_name}
use Rattle.table_text.specs.Items.{row_text}
use Rattle.inspection.specs.Pieces.{each}

abbrev pub step_line : Sheet → Option ℕ → ℕ → List ℕ
step_line s None X = []
step_line s (Some t) X = codes "  by " ++ (symbol_name s X ++ (codes " to " ++ (decimal t ++ codes "\n")))

abbrev pub step_lines : Sheet → Source → ℕ → List ℕ
step_lines s src b = each (λ X. step_line s (src.next b X) X) 0 (symbols s.grammar)

unfoldable pub state_text : Sheet → Source → ℕ → List ℕ
state_text s src b = codes "state " ++ (decimal b ++ (codes "\n" ++ (row_text s (src.has b) ++ step_lines s src b)))

abbrev pub state_part : Sheet → Source → ℕ → List ℕ
state_part s src b = cond (nat_lt b src.states) (state_text s src b) []

abbrev pub state_texts : Sheet → Source → List ℕ
state_texts s src = each (state_part s src) 0 src.states

abbrev pub text_of_table : Sheet → Source → List ℕ
text_of_table s src = codes "states: " ++ (decimal src.states ++ (codes "\n" ++ state_texts s src))
