use Rattle.std.proofs.Common.{◌≡◌, ◌-◌, ◌≤◌}
use Rattle.std.specs.Fmt.{IsPlainFormatter, HasWritten}
use Rattle.grammar.specs.Meaning.{sheet}
use Rattle.inspection.specs.Listings.{lines, symbol_line}
use Rattle.inspection.proofs.listing.SymbolLinesDisplay.fmt.Given as goal

-- The lines so far were written; where there is nothing to go through, the loop stays at its start.
abbrev pub invariant-loop-symbol : goal.invariant-loop-symbol
invariant-loop-symbol g l =
    (l.self.to ≤ l.self.from → l.symbol ≡ l.self.from)
    × (IsPlainFormatter l.initial.f
    → HasWritten g.W.Write.write_str_gives l.initial.f (lines (symbol_line (sheet l.self.grammar.now)) l.self.from (l.symbol - l.self.from)) l.f)
