-- The text of a state, from its row and its steps.
use Rattle.std.proofs.Common.{◌≡◌, ℕ, ◌<◌, cond, ltb, List, [], ◌++◌, codes, decimal, ap, ◌∙◌, arith}
use Rattle.std.proofs.lemmas.Bool.Decides.{nat_tests}
use Rattle.parsing.specs.Items.{Source}
use Rattle.grammar_format.specs.Sheets.{Sheet}
use Rattle.table_format.specs.ItemSets.{Items}
use Rattle.table_text.specs.Items.{row_text}
use Rattle.table_text.specs.States.{step_lines, state_text, state_part}

inside : (b n : ℕ) (text : List ℕ) → b < n → text ≡ cond (ltb b n) text []
inside b n text h = grind (arith, nat_tests)

abbrev pub state_by : Sheet → Source → ℕ → Items → List ℕ
state_by s src b w = codes "state " ++ (decimal b ++ (codes "\n" ++ (row_text s w ++ step_lines s src b)))

pub state_is : (s : Sheet) (src : Source) (b : ℕ) (w : Items) → b < src.states → w ≡ src.has b → state_by s src b w ≡ state_part s src b
unfolding state_text
state_is s src b w h e = ap (state_by s src b) e ∙ inside b src.states (state_by s src b (src.has b)) h
