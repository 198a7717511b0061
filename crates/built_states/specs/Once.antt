-- That the states of a grammar are built in one way.
--   built_source g n ws ss   the source of states that n built states with the rows ws and the steps ss are
--   OneBuilding              built states of one grammar are one source
use Rattle.std.specs.Prelude.{◌≡◌, ℕ, List, Option}
use Rattle.parsing.specs.Grammar.{Grammar}
use Rattle.parsing.specs.Items.{Source}
use Rattle.table_format.specs.ItemSets.{RightSides}
use Rattle.table_format.specs.Tables.{source_of}
use Rattle.rows.specs.declared.row.Row.{Row}
use Rattle.built_states.specs.Built.{row_items, built_table, Built}

abbrev pub built_source : Grammar → ℕ → List Row → List (List (Option ℕ)) → Source
built_source g n ws ss = source_of g (built_table g n ws ss) (row_items ws)

abbrev pub OneBuilding : Type 0
OneBuilding = (g : Grammar) (m n : ℕ) (vs ws : List Row) (rs ss : List (List (Option ℕ))) → RightSides g → Built g m vs rs → Built g n ws ss
    → built_source g m vs rs ≡ built_source g n ws ss
