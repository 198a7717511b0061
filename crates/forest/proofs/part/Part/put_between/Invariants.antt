use Rattle.register.specs.Registers.{Grew}
use Rattle.register.proofs.Growing.{Upto}
use Rattle.records.specs.declared.node.Node.{Node}
use Rattle.forest.specs.Parts.{Between}
use Rattle.forest.proofs.part.Part.put_between.Given as goal

abbrev pub invariant-loop-a : goal.invariant-loop-a
invariant-loop-a g l =
    Grew (Upto (Between (g.F.Fits.says l.self.spans.now l.self.symbol) l.before l.self.next.now l.self.symbol l.self.i l.self.j) (λ (z : Node). z.from) l.a)
    l.initial.nodes l.nodes
