-- What a text means.
--   all_digits w           the bytes w are digits
--   same_spelling x w      the spelling x is the bytes w
--   spelled_from t xs w    of the spellings xs, which are those of the terminals from t on, the terminal of the first that is the bytes w
--   spelled_terminal s w   the terminal other than 0 whose spelling in the sheet s the bytes w are
--   amount_said r          what a run r of digits says
--   spelling_said r o      what any other run r says, o being the terminal that it spells
--   said s r               what the run r says: a word, or a refusal
--   text_coming s i xs     the words of the bytes xs, which stand from the place i on
use Rattle.std.specs.Prelude.{ℕ, ◌+◌, Bool, cond, List, [], ◌∷◌, map, length, drop, Some, None, Ok, Err, Option, Result, nat_le}
use Rattle.std.specs.List.{list_all}
use Rattle.std.specs.Str.Parse.{digits_value}
use Rattle.std.specs.Str.{bytes_eq}
use Rattle.grammar_format.specs.Sheets.{Sheet}
use Rattle.grammar.specs.declared.refusal.Refusal.{Refusal}
use Rattle.words.specs.Bytes.{is_digit}
use Rattle.words.specs.Feeds.{Coming, told}
use Rattle.words.specs.Refusals.{of_feed}
use Rattle.words.specs.Runs.{Run, run_end, runs}
use Rattle.words.specs.declared.word.Word.{Word}

abbrev pub all_digits : List ℕ → Bool
all_digits w = list_all is_digit w

abbrev pub same_spelling : List ℕ → List ℕ → Bool
same_spelling x w = bytes_eq x w

abbrev pub spelled_from : ℕ → List (List ℕ) → List ℕ → Option ℕ
spelled_from t [] w = None
spelled_from t (x ∷ xs) w = cond (same_spelling x w) (Some t) (spelled_from (t + 1) xs w)

unfoldable pub spelled_terminal : Sheet → List ℕ → Option ℕ
spelled_terminal s w = spelled_from 1 (drop 1 s.spellings) w

-- One to five digits are an amount, in base ten; more are too long.
abbrev pub amount_said : Run → Result Word Refusal
amount_said r =
    cond (nat_le (length r.bytes) 5)
    (Ok (record { terminal = 0; amount = digits_value 10 r.bytes; from = r.from; to = run_end r }))
    (Err (of_feed 52 r.from (run_end r)))

-- Any other run has to be a spelling.
abbrev pub spelling_said : Run → Option ℕ → Result Word Refusal
spelling_said r None = Err (of_feed 51 r.from (run_end r))
spelling_said r (Some t) = Ok (record { terminal = t; amount = 0; from = r.from; to = run_end r })

abbrev pub said : Sheet → Run → Result Word Refusal
said s r = cond (all_digits r.bytes) (amount_said r) (spelling_said r (spelled_terminal s r.bytes))

abbrev pub text_coming : Sheet → ℕ → List ℕ → Coming
text_coming s i xs = told (map (said s) (runs i xs))
