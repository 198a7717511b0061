-- What the words and the refusal of a text say of its bytes.
--   Amount w bs        the bytes bs are one to five digits that write the amount of the word w
--   Spells s w bs      the word w is what the bytes bs say: an amount in digits, or the terminal that they spell
--   Unspelled s bs     no terminal other than 0 is spelled with the bytes bs
--   Blames s xs x      the refusal x is right of the bytes of the text xs that it names
--   Faithful s xs c    the words and the refusal of c say what stands in the text xs at their places
use Rattle.std.specs.Prelude.{◌≡◌, ℕ, ◌<◌, ◌≤◌, true, false, List, length, IfSome, ◌≢◌}
use Rattle.std.specs.Str.Parse.{digits_value}
use Rattle.std.specs.List.{AllByRecursion}
use Rattle.grammar_format.specs.Keeping.{spelling_of}
use Rattle.grammar_format.specs.Sheets.{Sheet}
use Rattle.grammar.specs.declared.refusal.Refusal.{Refusal}
use Rattle.words.specs.Feeds.{Coming}
use Rattle.words.specs.Places.{part}
use Rattle.words.specs.Refusals.{of_feed}
use Rattle.words.specs.Texts.{all_digits}
use Rattle.words.specs.declared.word.Word.{Word}

pub record Amount (w : Word) (bs : List ℕ) : Type 0 where
  pub digits : all_digits bs ≡ true
  pub few : length bs ≤ 5
  pub value_is : w.amount ≡ digits_value 10 bs

pub record Spells (s : Sheet) (w : Word) (bs : List ℕ) : Type 0 where
  pub amount : w.terminal ≡ 0 → Amount w bs
  pub spelling : 0 < w.terminal → spelling_of s w.terminal ≡ bs

abbrev pub Unspelled : Sheet → List ℕ → Type 0
Unspelled s bs = (t : ℕ) → 0 < t → t < s.grammar.terminals → spelling_of s t ≢ bs

-- 51: neither digits nor a spelling. 52: more than five digits. A text has no other refusal.
pub data Blames (s : Sheet) (xs : List ℕ) (x : Refusal) : Type 0 where
  unknown : (p q : ℕ) → x ≡ of_feed 51 p q → all_digits (part xs p q) ≡ false → Unspelled s (part xs p q) → Blames s xs x
  long : (p q : ℕ) → x ≡ of_feed 52 p q → all_digits (part xs p q) ≡ true → 5 < length (part xs p q) → Blames s xs x

pub record Faithful (s : Sheet) (xs : List ℕ) (c : Coming) : Type 0 where
  pub spelled : AllByRecursion (λ w. Spells s w (part xs w.from w.to)) c.words
  pub blamed : IfSome c.fault (Blames s xs)
