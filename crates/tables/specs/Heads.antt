-- A header that passed, and the sheet that is laid out by it.
--   Long b            the bytes have a header, and the length that it tells
--   Counted g b       it tells 1 to 255 states, and the symbols and the rules of the grammar
--   Placed b          its offsets are right, and the length is as counted
--   Told b h          h has the counts that the bytes tell
--   Laid b h          that, and the bytes are as long as it counts
--   Headed g b h      all of these
--   Formed g b h      the bytes have the form of a table sheet for the grammar g, laid out by h
--   StepsFit M xs n   each of the first n step bytes xs is one of M states, or 255
--   StrayStep M xs j  the one in place j is neither, and it is the first
--   MarksFit ys n     each of the first n mark bytes ys is 0 or 1
--   StrayMark ys j    the one in place j is neither, and it is the first
use Rattle.std.specs.Prelude.{◌≡◌, ℕ, ◌<◌, ◌≤◌, ◌≢◌, List, length, slice_index}
use Rattle.parsing.specs.Grammar.{Grammar, rule_count}
use Rattle.grammar_format.specs.Fields.{number}
use Rattle.table_format.specs.ItemSets.{symbols}
use Rattle.table_format.specs.Sheets.{states_told, symbols_told, rules_told, marks_at, ends_at, Form}
use Rattle.tables.specs.declared.header.Header.{Header}

pub record Long (b : List ℕ) : Type 0 where
  pub head : 12 ≤ length b
  pub whole : number b 0 ≡ length b

pub record Counted (g : Grammar) (b : List ℕ) : Type 0 where
  pub some_states : 1 ≤ states_told b
  pub few_states : states_told b ≤ 255
  pub same_symbols : symbols_told b ≡ symbols g
  pub same_rules : rules_told b ≡ rule_count g

pub record Placed (b : List ℕ) : Type 0 where
  pub steps_offset : number b 8 ≡ 12
  pub marks_offset : number b 10 ≡ marks_at (states_told b) (symbols_told b)
  pub counted : length b ≡ ends_at (states_told b) (symbols_told b) (rules_told b)

pub record Told (b : List ℕ) (h : Header) : Type 0 where
  pub states_are : h.states ≡ states_told b
  pub symbols_are : h.symbols ≡ symbols_told b
  pub rules_are : h.rules ≡ rules_told b

pub record Laid (b : List ℕ) (h : Header) : Type 0 where
  pub told : Told b h
  pub counted : length b ≡ ends_at (states_told b) (symbols_told b) (rules_told b)

pub record Headed (g : Grammar) (b : List ℕ) (h : Header) : Type 0 where
  pub long : Long b
  pub counted : Counted g b
  pub placed : Placed b
  pub told : Told b h

abbrev pub StepsFit : ℕ → List ℕ → ℕ → Type 0
StepsFit M xs n = (k : ℕ) → k < n → slice_index xs k ≢ 255 → slice_index xs k < M

abbrev pub StrayStep : ℕ → List ℕ → ℕ → Type 0
StrayStep M xs j = (j < length xs) × (slice_index xs j ≢ 255) × (M ≤ slice_index xs j) × StepsFit M xs j

abbrev pub MarksFit : List ℕ → ℕ → Type 0
MarksFit ys n = (k : ℕ) → k < n → slice_index ys k ≤ 1

abbrev pub StrayMark : List ℕ → ℕ → Type 0
StrayMark ys j = (j < length ys) × (1 < slice_index ys j) × MarksFit ys j

pub record Formed (g : Grammar) (b : List ℕ) (h : Header) : Type 0 where
  pub form : Form g b
  pub told : Told b h
