use Rattle.std.proofs.Common.{◌-◌}
use Rattle.std.specs.Fmt.{IsPlainFormatter, HasWritten}
use Rattle.grammar.specs.Meaning.{sheet}
use Rattle.tables.specs.Meaning.{source}
use Rattle.inspection.specs.Pieces.{each}
use Rattle.table_text.specs.States.{state_part}
use Rattle.table_text.proofs.state.StateTextsDisplay.fmt.Given as goal

-- The states so far were written.
abbrev pub invariant-loop-state : goal.invariant-loop-state
invariant-loop-state g l =
    IsPlainFormatter l.initial.f
    → HasWritten g.W.Write.write_str_gives l.initial.f (each (state_part (sheet l.self.0.grammar.now) (source l.self.0.table.now)) 0 (l.state - 0)) l.f
