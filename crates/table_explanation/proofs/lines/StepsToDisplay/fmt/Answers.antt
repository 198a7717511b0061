use Rattle.std.proofs.Common.{ℕ, ◌++◌, codes, decimal, ap}
use Rattle.std.proofs.Output.{has_written_of_eq}
use Rattle.grammar.specs.Meaning.{sheet}
use Rattle.inspection.specs.Names.{symbol_name}
use Rattle.table_explanation.specs.Explanations.{step_at}
use Rattle.table_explanation.proofs.lines.StepsToDisplay.fmt.Goals as goal

pub returns-clause-writes : goal.returns-clause-writes
returns-clause-writes g c = λ plain ok.
    let x = c.args.self.now in
    let s = sheet x.0.grammar.now in
    let target = c.step_byte-target.result in
    has_written_of_eq g.W.Write.write_str_gives _
    (codes "State " ++ (decimal x.1 ++ (codes " steps by `" ++ (symbol_name s x.2 ++ (codes "` to state " ++ decimal target)))))
    (codes "State " ++ (decimal x.1 ++ (codes " steps by `" ++ (symbol_name s x.2 ++ (codes "` to state " ++ decimal (step_at x.0.sheet.now x.1 x.2)))))) _
    (ap (λ (n : ℕ). codes "State " ++ (decimal x.1 ++ (codes " steps by `" ++ (symbol_name s x.2 ++ (codes "` to state " ++ decimal n)))))
    c.step_byte-target.ensures)
    (c.write.ensures.writes plain ok)
