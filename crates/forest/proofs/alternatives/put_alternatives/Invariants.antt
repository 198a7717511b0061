use Rattle.register.specs.Registers.{Grew}
use Rattle.forest.specs.Parts.{Of}
use Rattle.forest.proofs.alternatives.put_alternatives.Given as goal

abbrev pub invariant-loop-rule : goal.invariant-loop-rule
invariant-loop-rule g l =
    Grew (Of (g.S.StateSource.meaning l.source).grammar (g.F.Fits.says l.spans) l.node l.rule) l.initial.alternatives l.alternatives
