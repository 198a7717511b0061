-- Items and rows in readable notation.
--   dot_mark            the mark that stands for the dot of an item, behind a blank: the character `•`, which no spelling has
--   mark_place s r d    how many right symbols of the rule r stand before the mark: d, if it has so many
--   item_text s r d     the item (r, d): the rule r of the sheet s, with the mark behind its first d right symbols, or behind all
--   item_line s w r d   a line for the item (r, d), if the row w has it
--   rule_items s w r    the items of the row w that are of the rule r, a line for each
--   row_text s w        the items of the row w, a line for each
use Rattle.std.specs.Prelude.{ℕ, ◌+◌, ◌-◌, min, cond, List, [], ◌∷◌, ◌++◌, codes}
use Rattle.parsing.specs.Grammar.{rule_count}
use Rattle.grammar_format.specs.Sheets.{Sheet}
use Rattle.grammar.specs.Questions.{left_side, right_length}
use Rattle.table_format.specs.ItemSets.{Items}
use Rattle.inspection.specs.Names.{symbol_name}
use Rattle.inspection.specs.Rules.{right_piece}
use Rattle.inspection.specs.Pieces.{each}

abbrev pub dot_mark : List ℕ
dot_mark = codes " " ++ (226 ∷ (128 ∷ (162 ∷ [])))

abbrev pub mark_place : Sheet → ℕ → ℕ → ℕ
mark_place s r d = min d (right_length s.grammar r)

abbrev pub item_text : Sheet → ℕ → ℕ → List ℕ
item_text s r d =
    symbol_name s (left_side s.grammar r)
    ++ (codes " ->"
    ++ (each (right_piece s r) 0 (mark_place s r d)
    ++ (dot_mark
    ++ each (right_piece s r) (mark_place s r d) (right_length s.grammar r - mark_place s r d))))

abbrev pub item_line : Sheet → Items → ℕ → ℕ → List ℕ
item_line s w r d = cond (w r d) (codes "  " ++ (item_text s r d ++ codes "\n")) []

abbrev pub rule_items : Sheet → Items → ℕ → List ℕ
rule_items s w r = each (item_line s w r) 0 (right_length s.grammar r + 1)

abbrev pub row_text : Sheet → Items → List ℕ
row_text s w = each (rule_items s w) 0 (rule_count s.grammar)
