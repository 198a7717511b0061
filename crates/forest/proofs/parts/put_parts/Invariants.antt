use Rattle.register.specs.Registers.{Grew}
use Rattle.forest.specs.Parts.{PartBelow}
use Rattle.forest.proofs.parts.put_parts.Given as goal

abbrev pub invariant-loop-rule : goal.invariant-loop-rule
invariant-loop-rule g l =
    Grew (PartBelow (g.S.StateSource.meaning l.source).grammar (g.F.Fits.says l.spans) l.node l.rule) l.initial.nodes l.nodes
