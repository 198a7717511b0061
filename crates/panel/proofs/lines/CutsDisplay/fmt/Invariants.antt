use Rattle.std.proofs.Common.{take}
use Rattle.std.specs.Fmt.{IsPlainFormatter, HasWritten}
use Rattle.std.specs.List.{flat_map}
use Rattle.panel.specs.Lines.{cut_text}
use Rattle.panel.proofs.lines.CutsDisplay.fmt.Given as goal

-- The cuts so far were written.
abbrev pub invariant-loop-cut : goal.invariant-loop-cut
invariant-loop-cut g l = IsPlainFormatter l.initial.f → HasWritten g.W.Write.write_str_gives l.initial.f (flat_map cut_text (take l.cut-index l.self.0.now)) l.f
