-- What a table of states means.
--   grammar_of t       the grammar that the table t is over
--   bytes t            the sheet that it was read from; rows_of t, the rows of its states
--   source t           the source of states that it is
--   Accepted g b t     the bytes b pass for the grammar g, and t is the table over them: its rows match the states with the LR(0) item sets
use Rattle.std.specs.Prelude.{◌≡◌, ℕ, List}
use Rattle.parsing.specs.Items.{Source}
use Rattle.grammar.specs.Meaning.{meaning}
use Rattle.grammar.specs.declared.grammar.Grammar.{Grammar}
use Rattle.table_format.specs.ItemSets.{Items}
use Rattle.table_format.specs.Tables.{Matches, source_of}
use Rattle.table_format.specs.Walks.{passes}
use Rattle.table_format.specs.Sheets.{table_of, Form}
use Rattle.table_format.specs.Breaches.{Checked}
use Rattle.tables.specs.Lists.{row_in}
use Rattle.tables.specs.declared.table.Table.{Table}

abbrev pub grammar_of : Table → Grammar
grammar_of t = t.grammar

abbrev pub bytes : Table → List ℕ
bytes t = t.sheet.items

abbrev pub rows_of : Table → ℕ → Items
rows_of t = row_in t.rows

unfoldable pub source : Table → Source
source t = source_of (meaning (grammar_of t)) (table_of (bytes t)) (rows_of t)

pub record Accepted (g : Grammar) (b : List ℕ) (t : Table) : Type 0 where
  pub checked : Checked (meaning g) b passes
  pub form : Form (meaning g) b
  pub matches : Matches (meaning g) (table_of b) (rows_of t)
  pub over_grammar : grammar_of t ≡ g
  pub over_bytes : bytes t ≡ b
