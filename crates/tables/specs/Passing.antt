-- What every table keeps.
--   Passed g b h ws   the bytes b are a table sheet for the grammar g, laid out by h, and with the rows ws its states match the LR(0) item sets
use Rattle.std.specs.Prelude.{ℕ, List}
use Rattle.parsing.specs.Grammar.{Grammar}
use Rattle.rows.specs.declared.row.Row.{Row}
use Rattle.table_format.specs.Tables.{Matches}
use Rattle.table_format.specs.Sheets.{table_of}
use Rattle.tables.specs.Heads.{Formed}
use Rattle.tables.specs.Lists.{row_in}
use Rattle.tables.specs.declared.header.Header.{Header}

pub record Passed (g : Grammar) (b : List ℕ) (h : Header) (ws : List Row) : Type 0 where
  pub formed : Formed g b h
  pub matches : Matches g (table_of b) (row_in ws)
