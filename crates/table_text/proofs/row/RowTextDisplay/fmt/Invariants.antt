use Rattle.std.proofs.Common.{◌-◌}
use Rattle.std.specs.Fmt.{IsPlainFormatter, HasWritten}
use Rattle.grammar.specs.Meaning.{sheet}
use Rattle.rows.specs.Rows.{items}
use Rattle.table_text.specs.Items.{rule_items}
use Rattle.inspection.specs.Pieces.{each}
use Rattle.table_text.proofs.row.RowTextDisplay.fmt.Given as goal

-- The items of the rules so far were written.
abbrev pub invariant-loop-rule : goal.invariant-loop-rule
invariant-loop-rule g l =
    IsPlainFormatter l.initial.f
    → HasWritten g.W.Write.write_str_gives l.initial.f (each (rule_items (sheet l.self.grammar.now) (items l.self.row.now)) 0 (l.rule - 0)) l.f
