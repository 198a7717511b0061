-- The sheets of the grammar P, and a recipe in its words.
--   p_sheet         P with the spellings of its terminals: the amount, which has none, `tea` and `and`
--   grammar_bytes   the bytes of its grammar sheet
--   table_bytes     the bytes of the table sheet of its states
--   recipe          the text of a recipe; keys, the same recipe as a record of pressed keys
--   word t a i j    the word of the terminal t and the amount a, from the byte i up to the byte j
--   in_text         the words of the text; in_record, those of the record
--   KnownSheets     the sheets are those of P, and the text and the record say these words
use Rattle.std.specs.Prelude.{◌≡◌, ℕ, ◌≤◌, true, List, [], ◌∷◌, ◌++◌, codes, None, Option}
use Rattle.grammar_format.specs.Sheets.{Sheet, sheet_bytes}
use Rattle.grammar_format.specs.Keeping.{Keeps}
use Rattle.table_format.specs.Sheets.{table_bytes as bytes_of}
use Rattle.table_format.specs.Breaches.{Checked}
use Rattle.table_format.specs.Walks.{passes}
use Rattle.rows.specs.declared.row.Row.{Row}
use Rattle.built_states.specs.Built.{Built}
use Rattle.built_states.specs.Once.{built_source}
use Rattle.words.specs.Keys.{key_coming}
use Rattle.words.specs.Texts.{text_coming}
use Rattle.words.specs.declared.word.Word.{Word}
use Rattle.histories.specs.Calls.{opened, read_through, judged, and_feed}
use Rattle.histories.specs.Doings.{Does}
use Rattle.known.specs.Automata.{table, source}
use Rattle.known.specs.Samples.{p, p_eight}

abbrev pub p_sheet : Sheet
p_sheet = record { grammar = p.grammar; spellings = [] ∷ codes "tea" ∷ codes "and" ∷ [] }

-- The six numbers of the header; three rules; three spellings.
abbrev pub grammar_bytes : List ℕ
grammar_bytes =
    (0 ∷ 48 ∷ 0 ∷ 3 ∷ 0 ∷ 2 ∷ 0 ∷ 3 ∷ 0 ∷ 12 ∷ 0 ∷ 39 ∷ [])
    ++ ((3 ∷ 1 ∷ 4 ∷ 255 ∷ 255 ∷ 255 ∷ 255 ∷ 255 ∷ 255 ∷ [])
    ++ ((4 ∷ 2 ∷ 0 ∷ 1 ∷ 255 ∷ 255 ∷ 255 ∷ 255 ∷ 255 ∷ [])
    ++ ((4 ∷ 3 ∷ 4 ∷ 2 ∷ 4 ∷ 255 ∷ 255 ∷ 255 ∷ 255 ∷ [])
    ++ ((0 ∷ []) ++ ((3 ∷ codes "tea") ++ (3 ∷ codes "and"))))))

-- The six numbers of the header; the steps of six states; their done marks.
abbrev pub table_bytes : List ℕ
table_bytes =
    (0 ∷ 60 ∷ 0 ∷ 6 ∷ 0 ∷ 5 ∷ 0 ∷ 3 ∷ 0 ∷ 12 ∷ 0 ∷ 42 ∷ [])
    ++ ((1 ∷ 255 ∷ 255 ∷ 255 ∷ 2 ∷ [])
    ++ ((255 ∷ 3 ∷ 255 ∷ 255 ∷ 255 ∷ [])
    ++ ((255 ∷ 255 ∷ 4 ∷ 255 ∷ 255 ∷ [])
    ++ ((255 ∷ 255 ∷ 255 ∷ 255 ∷ 255 ∷ [])
    ++ ((1 ∷ 255 ∷ 255 ∷ 255 ∷ 5 ∷ [])
    ++ ((255 ∷ 255 ∷ 4 ∷ 255 ∷ 255 ∷ [])
    ++ ((0 ∷ 0 ∷ 0 ∷ []) ++ ((0 ∷ 0 ∷ 0 ∷ []) ++ ((1 ∷ 0 ∷ 0 ∷ []) ++ ((0 ∷ 1 ∷ 0 ∷ []) ++ ((0 ∷ 0 ∷ 0 ∷ []) ++ (0 ∷ 0 ∷ 1 ∷ []))))))))))))

abbrev pub recipe : List ℕ
recipe = codes "1 tea and 2 tea and 3 tea"

-- The key 0 with two bytes of an amount, or the key of a terminal.
abbrev pub keys : List ℕ
keys = 0 ∷ 0 ∷ 1 ∷ 1 ∷ 2 ∷ 0 ∷ 0 ∷ 2 ∷ 1 ∷ 2 ∷ 0 ∷ 0 ∷ 3 ∷ 1 ∷ []

abbrev pub word : ℕ → ℕ → ℕ → ℕ → Word
word t a i j = record { terminal = t; amount = a; from = i; to = j }

abbrev pub in_text : List Word
in_text = word 0 1 0 1 ∷ word 1 0 2 5 ∷ word 2 0 6 9 ∷ word 0 2 10 11 ∷ word 1 0 12 15 ∷ word 2 0 16 19 ∷ word 0 3 20 21 ∷ word 1 0 22 25 ∷ []

abbrev pub in_record : List Word
in_record = word 0 1 0 3 ∷ word 1 0 3 4 ∷ word 2 0 4 5 ∷ word 0 2 5 8 ∷ word 1 0 8 9 ∷ word 2 0 9 10 ∷ word 0 3 10 13 ∷ word 1 0 13 14 ∷ []

pub record KnownSheets : Type 0 where
  pub keeps : Keeps p_sheet
  pub grammar : sheet_bytes p_sheet ≡ grammar_bytes
  pub states : bytes_of p.grammar (table p) ≡ table_bytes
  pub checked : Checked p.grammar table_bytes passes
  -- What is built of P is the source of the known results.
  pub built : (n : ℕ) (ws : List Row) (ss : List (List (Option ℕ))) → Built p.grammar n ws ss → built_source p.grammar n ws ss ≡ source p
  pub text : text_coming p_sheet 0 recipe ≡ record { words = in_text; fault = None }
  -- Reading it through takes all its words, and they are a sentence.
  pub read : (n : ℕ) → 15 ≤ n → Does (source p) (opened n []) (read_through (text_coming p_sheet 0 recipe))
      (and_feed (judged true) (record { words = []; fault = None })) (opened n p_eight.words)
  pub record_of_keys : key_coming 3 0 keys ≡ record { words = in_record; fault = None }
