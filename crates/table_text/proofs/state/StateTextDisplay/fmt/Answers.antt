use Rattle.std.proofs.Output.{has_written_of_eq}
use Rattle.grammar.specs.Meaning.{sheet}
use Rattle.rows.specs.Rows.{items}
use Rattle.tables.specs.Meaning.{source}
use Rattle.table_text.specs.States.{state_part}
use Rattle.table_text.proofs.Stating.{state_by, state_is}
use Rattle.table_text.proofs.state.StateTextDisplay.fmt.Goals as goal

pub returns-clause-writes : goal.returns-clause-writes
returns-clause-writes g c = λ plain ok.
    let x = c.args.self.now in
    let s = sheet x.grammar.now in
    let src = source x.table.now in
    let at = c.in-Some.ensures in
    has_written_of_eq g.W.Write.write_str_gives c.args.f.now (state_by s src x.state (items c.in-Some.row)) (state_part s src x.state) c.write.new.self
    (state_is s src x.state (items c.in-Some.row) at.0 at.1) (c.write.ensures.writes plain ok)
