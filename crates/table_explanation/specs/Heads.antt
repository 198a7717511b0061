-- Where the parts of a table sheet stand, read off any bytes.
--   Tells b h        h has the six numbers of the header of the bytes b
use Rattle.std.specs.Prelude.{◌≡◌, ℕ, List}
use Rattle.grammar_format.specs.Fields.{number}
use Rattle.table_format.specs.Sheets.{states_told, symbols_told, rules_told}
use Rattle.table_explanation.specs.declared.fields.Header.{Header}

pub record Tells (b : List ℕ) (h : Header) : Type 0 where
  pub length_is : h.length ≡ number b 0
  pub states_are : h.layout.states ≡ states_told b
  pub symbols_are : h.layout.symbols ≡ symbols_told b
  pub rules_are : h.layout.rules ≡ rules_told b
  pub steps_are_at : h.steps_at ≡ number b 8
  pub marks_are_at : h.marks_at ≡ number b 10
