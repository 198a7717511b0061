use Rattle.std.proofs.Common.{refl, arith}
use Rattle.grammar.specs.Meaning.{meaning}
use Rattle.built_states.specs.Built.{row_items, entry}
use Rattle.built_states.specs.Meaning.{table}
use Rattle.built_states.proofs.Answering.{next_past_states, next_past_symbols, next_is}
use Rattle.built_states.proofs.Writing.{few_states}
use Rattle.built_states.proofs.source.BuiltStatesStateSource.next.Goals as goal
use Rattle.built_states.proofs.source.BuiltStatesStateSource.next.Goals.{then-state-states-via-then-state-states, then-state-states-via-else-state-states+then-symbol-symbols}

pub returns-then-state-states : goal.returns-then-state-states
returns-then-state-states c =
    let b = c.args.self.now in
    elim c.then-state-states.branch [
      | then-state-states-via-then-state-states w ↦
          next_past_states (meaning b.grammar) (table b) (row_items b.building.rows) c.args.state c.args.symbol (omega arith)
      | then-state-states-via-else-state-states+then-symbol-symbols w ↦
          next_past_symbols (meaning b.grammar) (table b) (row_items b.building.rows) c.args.state c.args.symbol (omega arith) (omega (arith, w.symbols.ensures.value))
    ]

pub returns : goal.returns
returns c =
    let b = c.args.self.now in
    rw (c.from.ensures, c.from-2.ensures)
    (next_is (meaning b.grammar) (table b) (row_items b.building.rows) c.args.state c.args.symbol (entry b.building.steps c.args.state c.args.symbol) (omega arith)
    (omega (arith, c.symbols.ensures.value)) refl (λ t e. omega (arith, b.stepped c.args.state c.args.symbol t e, few_states b)))
