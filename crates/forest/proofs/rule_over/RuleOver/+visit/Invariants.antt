use Rattle.std.proofs.Common.{◌+◌, ◌-◌, length, get_or}
use Rattle.parsing.specs.Grammar.{rhs}
use Rattle.register.specs.Registers.{Grew}
use Rattle.register.proofs.Growing.{Upto}
use Rattle.records.specs.declared.alternative.Alternative.{Alternative}
use Rattle.forest.specs.Parts.{Extends}
use Rattle.forest.proofs.rule_over.RuleOver.+visit.Given as goal

abbrev pub decreases-visit : goal.decreases-visit
decreases-visit g l = length (rhs (g.S.StateSource.meaning l.self.now.source.now).grammar l.self.now.rule) - l.p

abbrev pub invariant-loop-c : goal.invariant-loop-c
invariant-loop-c g l =
    Grew
    (Upto (Extends (g.S.StateSource.meaning l.self.source.now).grammar (g.F.Fits.says l.self.spans.now) l.rows l.self.rule l.self.j l.p l.cuts)
    (λ (z : Alternative). get_or z.cuts (l.p + 1) 0) l.c)
    l.initial.alternatives l.alternatives
