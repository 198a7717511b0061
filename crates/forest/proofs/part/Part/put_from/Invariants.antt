use Rattle.register.specs.Registers.{Grew}
use Rattle.register.proofs.Growing.{Upto}
use Rattle.records.specs.declared.node.Node.{Node}
use Rattle.forest.specs.Parts.{From}
use Rattle.forest.proofs.part.Part.put_from.Given as goal

abbrev pub invariant-loop-b : goal.invariant-loop-b
invariant-loop-b g l =
    Grew (Upto (From (g.F.Fits.says l.self.spans.now l.self.symbol) l.self.next.now l.self.symbol l.self.j l.a) (λ (z : Node). z.to) l.b) l.initial.nodes l.nodes
