use Rattle.std.proofs.Common.{refl}
use Rattle.std.proofs.Output.{has_written_of_eq}
use Rattle.panel.proofs.answer.AnswerDisplay.fmt.Goals as goal

pub returns-in-Some-clause-writes : goal.returns-in-Some-clause-writes
returns-in-Some-clause-writes g c = λ plain ok.
    has_written_of_eq g.W.Write.write_str_gives c.args.f.now _ _ c.write-in-Some.new.self (rw (c.in-Some.is, c.alternatives-alternatives.ensures) refl)
    (c.write-in-Some.ensures.writes plain ok)
