-- From the states that are read over to the outcome for a table sheet.
use Rattle.std.proofs.Common.{◌≡◌, ℕ, ◌≢◌, List, length, refl, ap, ◌∙◌, subst}
use Rattle.grammar.specs.Meaning.{meaning}
use Rattle.grammar.specs.declared.grammar.Grammar.{Grammar}
use Rattle.table_format.specs.Tables.{source_of}
use Rattle.table_format.specs.Sheets.{table_of}
use Rattle.tables.specs.Meaning.{bytes, rows_of, source, Accepted}
use Rattle.tables.specs.declared.table.Table.{Table}
use Rattle.built_states.specs.Built.{Built}
use Rattle.built_states.specs.Once.{built_source}
use Rattle.built_states.specs.Meaning.{source as source_built}
use Rattle.built_states.specs.declared.built.BuiltStates.{BuiltStates}
use Rattle.words.specs.Feeds.{Coming}
use Rattle.panel.specs.Lines.{Outcome}
use Rattle.panel.specs.Outcomes.{Answered, ByTable, built, supplied}

built_is : (b : BuiltStates) → source_built b ≡ built_source (meaning b.grammar) b.building.count b.building.rows b.building.steps
unfolding source_of
built_is b = refl

supplied_is : (g : Grammar) (b : List ℕ) (t : Table) → Accepted g b t → source t ≡ source_of (meaning g) (table_of b) (rows_of t)
unfolding source
supplied_is g b t a =
    ap (λ h. source_of (meaning h) (table_of (bytes t)) (rows_of t)) a.over_grammar
    ∙ ap (λ x. source_of (meaning g) (table_of x) (rows_of t)) a.over_bytes

module _ (g : Grammar) (b : List ℕ) (c : Coming) (o : Outcome) where
  pub over_built : (states : BuiltStates) → length b ≡ 0 → states.grammar ≡ g → Built (meaning g) states.building.count states.building.rows states.building.steps
      → Answered (source_built states) c o → ByTable (meaning g) b c o
  over_built s none same made a =
      built s.building.count s.building.rows s.building.steps o none made
      (subst (λ h. Answered (built_source (meaning h) s.building.count s.building.rows s.building.steps) c o) same
      (subst (λ x. Answered x c o) (built_is s) a))

  pub over_supplied : (t : Table) → length b ≢ 0 → Accepted g b t → Answered (source t) c o → ByTable (meaning g) b c o
  over_supplied t some a x = supplied (rows_of t) o some a.checked a.form a.matches (subst (λ y. Answered y c o) (supplied_is g b t a) x)
