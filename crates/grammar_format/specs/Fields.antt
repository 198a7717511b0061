-- Where the parts of a grammar sheet stand, read off any bytes, whether they keep the rules or not.
--   number b o      the number of 16 bits at the offset o
--   terminals b     how many terminals the header tells; likewise nonterminals, rules and symbols
--   block b r       the nine bytes of the rule r: left, right_length, and right x d for the seven right symbols
--   remains b t     the sheet that remains from the spelling of the terminal t on
--   spelling b t    the bytes of that spelling
--   sheet_of b      all of it as a sheet
use Rattle.std.specs.Prelude.{ℕ, zero, suc, ◌+◌, ◌*◌, List, [], ◌∷◌, ◌++◌, take, drop, slice_index}
use Rattle.parsing.specs.Grammar.{Grammar, Rule}
use Rattle.grammar_format.specs.Sheets.{Sheet, rules_end}

unfoldable pub number : List ℕ → ℕ → ℕ
number b o = slice_index b o * 256 + slice_index b (o + 1)

abbrev pub terminals : List ℕ → ℕ
terminals b = number b 2

abbrev pub nonterminals : List ℕ → ℕ
nonterminals b = number b 4

abbrev pub rules : List ℕ → ℕ
rules b = number b 6

abbrev pub symbols : List ℕ → ℕ
symbols b = terminals b + nonterminals b

unfoldable pub block : List ℕ → ℕ → List ℕ
block b r = take 9 (drop (rules_end r) b)

abbrev pub left : List ℕ → ℕ
left x = slice_index x 0

abbrev pub right_length : List ℕ → ℕ
right_length x = slice_index x 1

abbrev pub right : List ℕ → ℕ → ℕ
right x d = slice_index x (2 + d)

-- The rule that nine bytes say.
unfoldable pub rule_of : List ℕ → Rule
rule_of x = record { left = left x; right = take (right_length x) (drop 2 x) }

-- Reading one spelling: its bytes, and the sheet that remains.
abbrev pub first_spelling : List ℕ → List ℕ
first_spelling [] = []
first_spelling (n ∷ xs) = take n xs

abbrev pub behind_spelling : List ℕ → List ℕ
behind_spelling [] = []
behind_spelling (n ∷ xs) = drop n xs

unfoldable pub remains : List ℕ → ℕ → List ℕ
remains b zero = drop (rules_end (rules b)) b
remains b (suc t) = behind_spelling (remains b t)

unfoldable pub spelling : List ℕ → ℕ → List ℕ
spelling b t = first_spelling (remains b t)

-- f 0, f 1 and so on: n values.
unfoldable pub listed : {A : Type 0} → (ℕ → A) → ℕ → List A
listed f zero = []
listed f (suc n) = listed f n ++ f n ∷ []

-- The rules, the grammar and the spellings that the bytes say.
abbrev pub rules_of : List ℕ → List Rule
rules_of b = listed (λ r. rule_of (block b r)) (rules b)

abbrev pub grammar_of : List ℕ → Grammar
grammar_of b = record { terminals = terminals b; nonterminals = nonterminals b; rules = rules_of b }

abbrev pub sheet_of : List ℕ → Sheet
sheet_of b = record { grammar = grammar_of b; spellings = listed (spelling b) (terminals b) }
