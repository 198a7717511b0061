-- What every source of states keeps.
--   Sourced src   src is a lawful source of 1 to 255 states over a well-formed grammar with 1 to 40 terminals and 2 to 24 nonterminals,
--                 and answers none and no outside its ranges
use Rattle.std.specs.Prelude.{◌≤◌}
use Rattle.parsing.specs.Grammar.{WellFormed}
use Rattle.parsing.specs.Items.{Source, Lawful}
use Rattle.table_format.specs.Tables.{Bounded}

pub record Sourced (src : Source) : Type 0 where
  pub lawful : Lawful src
  pub bounded : Bounded src
  pub some_states : 1 ≤ src.states
  pub few_states : src.states ≤ 255
  pub well_formed : WellFormed src.grammar
  pub some_terminals : 1 ≤ src.grammar.terminals
  pub few_terminals : src.grammar.terminals ≤ 40
  pub some_nonterminals : 2 ≤ src.grammar.nonterminals
  pub few_nonterminals : src.grammar.nonterminals ≤ 24
