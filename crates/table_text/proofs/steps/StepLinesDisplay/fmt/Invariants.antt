use Rattle.std.proofs.Common.{◌-◌}
use Rattle.std.specs.Fmt.{IsPlainFormatter, HasWritten}
use Rattle.grammar.specs.Meaning.{sheet}
use Rattle.tables.specs.Meaning.{source}
use Rattle.table_text.specs.States.{step_line}
use Rattle.inspection.specs.Pieces.{each}
use Rattle.table_text.proofs.steps.StepLinesDisplay.fmt.Given as goal

-- The steps so far were written.
abbrev pub invariant-loop-symbol : goal.invariant-loop-symbol
invariant-loop-symbol g l =
    IsPlainFormatter l.initial.f
    → HasWritten g.W.Write.write_str_gives l.initial.f
    (each (λ X. step_line (sheet l.self.0.grammar.now) ((source l.self.0.table.now).next l.self.0.state X) X) 0 (l.symbol - 0)) l.f
