-- A small grammar and its table sheet.
--   one         the grammar with one rule, which rewrites the goal 1 to the terminal 0
--   one_sheet   its table sheet: two states, two symbols and one rule
use Rattle.std.specs.Prelude.{ℕ, List, [], ◌∷◌, ◌++◌}
use Rattle.parsing.specs.Grammar.{Grammar}

abbrev pub one : Grammar
one = record { terminals = 1; nonterminals = 1; rules = record { left = 1; right = 0 ∷ [] } ∷ [] }

-- The header; the steps of state 0 and of state 1; their done marks.
abbrev pub one_sheet : List ℕ
one_sheet =
    (0 ∷ (18 ∷ (0 ∷ (2 ∷ (0 ∷ (2 ∷ (0 ∷ (1 ∷ (0 ∷ (12 ∷ (0 ∷ (16 ∷ []))))))))))))
    ++ ((1 ∷ (255 ∷ [])) ++ ((255 ∷ (255 ∷ [])) ++ ((0 ∷ []) ++ (1 ∷ []))))
