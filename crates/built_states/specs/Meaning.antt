-- The source of states that built states are.
--   table b      their table
--   source b     the states of b, with their rows, steps and done marks
--   Builds g b   the states b are those of the grammar g: they match its LR(0) item sets in the order of the walk, and are as many
use Rattle.std.specs.Prelude.{◌≡◌}
use Rattle.parsing.specs.Items.{Source}
use Rattle.table_format.specs.Tables.{Table, SetCount, source_of}
use Rattle.grammar.specs.Meaning.{meaning}
use Rattle.grammar.specs.declared.grammar.Grammar.{Grammar}
use Rattle.built_states.specs.Built.{row_items, built_table, Built, Many}
use Rattle.built_states.specs.declared.built.BuiltStates.{BuiltStates}

abbrev pub table : BuiltStates → Table
table b = built_table (meaning b.grammar) b.building.count b.building.rows b.building.steps

abbrev pub source : BuiltStates → Source
source b =
    record {
      grammar = meaning b.grammar;
      states = b.building.count;
      first = 0;
      next = (source_of (meaning b.grammar) (table b) (row_items b.building.rows)).next;
      has = (source_of (meaning b.grammar) (table b) (row_items b.building.rows)).has;
      done = (source_of (meaning b.grammar) (table b) (row_items b.building.rows)).done;
    }

pub record Builds (g : Grammar) (b : BuiltStates) : Type 0 where
  pub over_grammar : b.grammar ≡ g
  pub built : Built (meaning g) b.building.count b.building.rows b.building.steps
  pub counted : SetCount (meaning g) b.building.count
  pub not_many : Many (meaning g) → ⊥
