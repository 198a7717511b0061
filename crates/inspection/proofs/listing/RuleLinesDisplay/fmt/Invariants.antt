use Rattle.std.proofs.Common.{◌-◌}
use Rattle.std.specs.Fmt.{IsPlainFormatter, HasWritten}
use Rattle.grammar.specs.Meaning.{sheet}
use Rattle.inspection.specs.Listings.{lines, rule_line}
use Rattle.inspection.proofs.listing.RuleLinesDisplay.fmt.Given as goal

-- The lines so far were written.
abbrev pub invariant-loop-rule : goal.invariant-loop-rule
invariant-loop-rule g l = IsPlainFormatter l.initial.f → HasWritten g.W.Write.write_str_gives l.initial.f (lines (rule_line (sheet l.self.grammar.now)) 0 (l.rule - 0)) l.f
