use Rattle.std.proofs.Common.{◌++◌, codes, take}
use Rattle.std.specs.Fmt.{IsPlainFormatter, HasWritten}
use Rattle.std.specs.List.{flat_map}
use Rattle.panel.specs.Lines.{alternative_text}
use Rattle.panel.proofs.lines.AlternativeLinesDisplay.fmt.Given as goal

-- The lines so far were written.
abbrev pub invariant-loop-alternative : goal.invariant-loop-alternative
invariant-loop-alternative g l =
    IsPlainFormatter l.initial.f
    → HasWritten g.W.Write.write_str_gives l.initial.f (flat_map (λ z. alternative_text z ++ codes "\n") (take l.alternative-index l.self.0.now)) l.f
