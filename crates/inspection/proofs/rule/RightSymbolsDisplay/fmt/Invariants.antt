use Rattle.std.proofs.Common.{◌≡◌, ◌-◌, ◌≤◌}
use Rattle.std.specs.Fmt.{IsPlainFormatter, HasWritten}
use Rattle.grammar.specs.Meaning.{sheet}
use Rattle.inspection.specs.Rules.{right_piece}
use Rattle.inspection.specs.Pieces.{each}
use Rattle.inspection.proofs.rule.RightSymbolsDisplay.fmt.Given as goal

-- The symbols so far were written; where there is nothing to go through, the loop stays at its start.
abbrev pub invariant-loop-place : goal.invariant-loop-place
invariant-loop-place g l =
    (l.self.to ≤ l.self.from → l.place ≡ l.self.from)
    × (IsPlainFormatter l.initial.f
    → HasWritten g.W.Write.write_str_gives l.initial.f (each (right_piece (sheet l.self.grammar.now) l.self.rule) l.self.from (l.place - l.self.from)) l.f)
