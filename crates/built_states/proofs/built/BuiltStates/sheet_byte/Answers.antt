use Rattle.std.proofs.Common.{◌≡◌, ◌∙◌, arith}
use Rattle.grammar.specs.Meaning.{meaning}
use Rattle.table_format.specs.ItemSets.{symbols}
use Rattle.table_format.specs.Sheets.{marks_at}
use Rattle.built_states.proofs.Writing.{header_read, step_read_at, mark_cell, mark_place, mark_read_at}
use Rattle.built_states.proofs.built.BuiltStates.sheet_byte.Goals as goal

pub offset_bounds-self-cell-else-offset-marks : goal.offset_bounds-self-cell-else-offset-marks
offset_bounds-self-cell-else-offset-marks c =
    omega (arith, mark_place c.args.self.now c.args.offset c.marks_at-marks.result c.from-rules.result (omega arith) c.requires (cc) (cc))

pub bounds-self-cell-else-offset-marks : goal.bounds-self-cell-else-offset-marks
bounds-self-cell-else-offset-marks c =
    mark_place c.args.self.now c.args.offset c.marks_at-marks.result c.from-rules.result (omega arith) c.requires (cc) (cc)

pub nonzero_rem-cell-else-offset-marks : goal.nonzero_rem-cell-else-offset-marks
nonzero_rem-cell-else-offset-marks c =
    omega (arith, (mark_cell c.args.self.now c.args.offset c.marks_at-marks.result c.from-rules.result (omega arith) c.requires (cc) (cc)).column_in)

pub returns-then-offset-lt12 : goal.returns-then-offset-lt12
returns-then-offset-lt12 c = header_read c.args.self.now c.args.offset c.header.result (omega arith) c.header.ensures

pub returns-then-offset-marks : goal.returns-then-offset-marks
returns-then-offset-marks c =
    let b = c.args.self.now in
    let m : c.marks_at-marks.result ≡ marks_at b.building.count (symbols (meaning b.grammar)) = cc in
    c.unwrap_or.ensures ∙ step_read_at b c.args.offset c.from-symbols.result (omega arith) (omega arith) (cc)

pub returns-else-offset-marks : goal.returns-else-offset-marks
returns-else-offset-marks c =
    c.from.ensures
    ∙ mark_read_at c.args.self.now c.args.offset c.marks_at-marks.result c.from-rules.result (omega arith) c.requires (cc) (cc) c.is_done.result
    c.is_done.ensures
