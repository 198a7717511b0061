use Rattle.std.proofs.Common.{ℕ, ◌&&◌, ltb, length, refl, ◌∙◌, ap₂, arith}
use Rattle.std.proofs.lemmas.Bool.{le-ltb}
use Rattle.parsing.specs.Grammar.{rule_count, rhs}
use Rattle.grammar.specs.Meaning.{meaning}
use Rattle.built_states.specs.Built.{row_items}
use Rattle.built_states.specs.Meaning.{table}
use Rattle.built_states.proofs.Answering.{done_past, done_is}
use Rattle.built_states.proofs.source.BuiltStatesStateSource.done.Goals as goal

pub returns-then-state-states : goal.returns-then-state-states
returns-then-state-states c =
    let b = c.args.self.now in
    c.is_done.ensures
    ∙ ap₂ (λ (s r : ℕ). ltb r (rule_count (meaning b.grammar)) && row_items b.building.rows s r (length (rhs (meaning b.grammar) r))) c.from.ensures c.from-then-state-states.ensures
    ∙ done_is (meaning b.grammar) (table b) (row_items b.building.rows) c.args.state c.args.rule _ (omega arith) refl

pub returns-else-state-states : goal.returns-else-state-states
returns-else-state-states c =
    let b = c.args.self.now in
    le-ltb c.args.state c.states.result c.if-state-states.false
    ∙ done_past (meaning b.grammar) (table b) (row_items b.building.rows) c.args.state c.args.rule (omega arith)
