-- The rules that every grammar sheet keeps.
--   Letter c      a byte that may stand in a spelling
--   AllDigits w   a spelling of digits alone, which would read as an amount
--   Spelled w     a spelling of a terminal other than the amount
--   Keeps s       the sheet s keeps all the rules
use Rattle.std.specs.Prelude.{◌≡◌, ℕ, ◌<◌, ◌≤◌, ◌≢◌, List, [], length, slice_index, slice_index_or}
use Rattle.parsing.specs.Grammar.{WellFormed}
use Rattle.grammar_format.specs.Sheets.{Sheet}

-- A visible character of ASCII other than `#`, which opens a remark.
pub record Letter (c : ℕ) : Type 0 where
  pub low : 33 ≤ c
  pub high : c ≤ 126
  pub no_remark : c ≢ 35

pub record Digit (c : ℕ) : Type 0 where
  pub low : 48 ≤ c
  pub high : c ≤ 57

abbrev pub AllDigits : List ℕ → Type 0
AllDigits w = (k : ℕ) → k < length w → Digit (slice_index w k)

pub record Spelled (w : List ℕ) : Type 0 where
  pub some : 1 ≤ length w
  pub short : length w ≤ 12
  pub letters : (k : ℕ) → k < length w → Letter (slice_index w k)
  pub no_amount : AllDigits w → ⊥

-- The spelling of the terminal t.
abbrev pub spelling_of : Sheet → ℕ → List ℕ
spelling_of s t = slice_index_or s.spellings t []

-- Terminal 0 is the amount, which is written in digits and has no spelling of its own.
pub record Keeps (s : Sheet) : Type 0 where
  pub some_terminals : 1 ≤ s.grammar.terminals
  pub few_terminals : s.grammar.terminals ≤ 40
  pub some_nonterminals : 2 ≤ s.grammar.nonterminals
  pub few_nonterminals : s.grammar.nonterminals ≤ 24
  pub well_formed : WellFormed s.grammar
  pub one_each : length s.spellings ≡ s.grammar.terminals
  pub amount : spelling_of s 0 ≡ []
  pub spelled : (t : ℕ) → 0 < t → t < s.grammar.terminals → Spelled (spelling_of s t)
  pub apart : (t u : ℕ) → u < t → t < s.grammar.terminals → spelling_of s u ≢ spelling_of s t
