use Rattle.std.proofs.Common.{◌-◌}
use Rattle.std.specs.Fmt.{IsPlainFormatter, HasWritten}
use Rattle.grammar.specs.Meaning.{sheet}
use Rattle.rows.specs.Rows.{items}
use Rattle.table_text.specs.Items.{item_line}
use Rattle.inspection.specs.Pieces.{each}
use Rattle.table_text.proofs.row.RuleItemsDisplay.fmt.Given as goal

-- The items so far were written.
abbrev pub invariant-loop-dot : goal.invariant-loop-dot
invariant-loop-dot g l =
    IsPlainFormatter l.initial.f
    → HasWritten g.W.Write.write_str_gives l.initial.f (each (item_line (sheet l.self.text.grammar.now) (items l.self.text.row.now) l.self.rule) 0 (l.dot - 0)) l.f
