-- What every table holds while it exists.
use Rattle.std.specs.Prelude.{ℕ, ◌≤◌, List}
use Rattle.std.proofs.Common.{arith}
use Rattle.std.proofs.Math.Logic.{∥∥₁_elim}
use Rattle.std.proofs.Math.Bridge.{le_prop}
use Rattle.std.proofs.Math.Nat.{ℕ_set}
use Rattle.parsing.specs.Grammar.{Grammar}
use Rattle.grammar.specs.Meaning.{meaning}
use Rattle.grammar.proofs.Held.{held as grammar_held}
use Rattle.rows.specs.declared.row.Row.{Row}
use Rattle.rows.proofs.Grammars.{right_sides, well_formed}
use Rattle.states.specs.Sources.{Sourced}
use Rattle.table_format.specs.Tables.{source_of}
use Rattle.table_format.specs.Sheets.{table_of, Form}
use Rattle.table_format.proofs.Props.{matches_prop}
use Rattle.table_format.proofs.Sources.{lawful, bounded}
use Rattle.table_format.proofs.Sheets.{states_of}
use Rattle.tables.specs.declared.header.Header.{Header}
use Rattle.tables.specs.declared.table.Table.{Table}
use Rattle.tables.specs.Heads.{Told}
use Rattle.tables.specs.Lists.{row_in}
use Rattle.tables.specs.Passing.{Passed}
use Rattle.tables.specs.Meaning.{grammar_of, bytes, rows_of, source}

form_prop : (g : Grammar) (b : List ℕ) → IsProp (Form g b)
form_prop g b x y = λ i. record {
  twelve = le_prop x.twelve y.twelve i;
  whole = ℕ_set _ _ x.whole y.whole i;
  some_states = le_prop x.some_states y.some_states i;
  few_states = le_prop x.few_states y.few_states i;
  same_symbols = ℕ_set _ _ x.same_symbols y.same_symbols i;
  same_rules = ℕ_set _ _ x.same_rules y.same_rules i;
  steps_offset = ℕ_set _ _ x.steps_offset y.steps_offset i;
  marks_offset = ℕ_set _ _ x.marks_offset y.marks_offset i;
  counted = ℕ_set _ _ x.counted y.counted i;
  step_bytes = λ p h l n. le_prop (x.step_bytes p h l n) (y.step_bytes p h l n) i;
  mark_bytes = λ p h l. le_prop (x.mark_bytes p h l) (y.mark_bytes p h l) i;
}

told_prop : (b : List ℕ) (h : Header) → IsProp (Told b h)
told_prop b h x y = λ i. record {
  states_are = ℕ_set _ _ x.states_are y.states_are i;
  symbols_are = ℕ_set _ _ x.symbols_are y.symbols_are i;
  rules_are = ℕ_set _ _ x.rules_are y.rules_are i;
}

passed_prop : (g : Grammar) (b : List ℕ) (h : Header) (ws : List Row) → IsProp (Passed g b h ws)
passed_prop g b h ws x y = λ i. record {
  formed = record {
    form = form_prop g b x.formed.form y.formed.form i;
    told = told_prop b h x.formed.told y.formed.told i;
  };
  matches = matches_prop g (table_of b) (row_in ws) x.matches y.matches i;
}

module _ (t : Table) where
  pub held : Passed (meaning (grammar_of t)) (bytes t) t.header t.rows
  held = ∥∥₁_elim t.passed (passed_prop (meaning (grammar_of t)) (bytes t) t.header t.rows) (λ h. h)

  pub sourced : Sourced (source t)
  unfolding source source_of
  sourced = record {
    lawful = lawful (right_sides (grammar_of t)) few held.matches;
    bounded = bounded (meaning (grammar_of t)) (table_of (bytes t)) (rows_of t);
    some_states = omega (arith, states_of (bytes t), held.formed.form.some_states);
    few_states = few;
    well_formed = well_formed (grammar_of t);
    some_terminals = (grammar_held (grammar_of t)).kept.some_terminals;
    few_terminals = (grammar_held (grammar_of t)).kept.few_terminals;
    some_nonterminals = (grammar_held (grammar_of t)).kept.some_nonterminals;
    few_nonterminals = (grammar_held (grammar_of t)).kept.few_nonterminals;
  }
    where
      few : (table_of (bytes t)).states ≤ 255
      few = omega (arith, states_of (bytes t), held.formed.form.few_states)
