use Rattle.std.proofs.Common.{length}
use Rattle.parsing.specs.Grammar.{rhs}
use Rattle.spans.specs.Spans.{part_fits}
use Rattle.register.specs.Registers.{Grew}
use Rattle.forest.specs.Marks.{Leads}
use Rattle.forest.specs.Parts.{PartOf}
use Rattle.forest.proofs.rule_over.RuleOver.put_parts.Given as goal

abbrev pub invariant-loop-p : goal.invariant-loop-p
invariant-loop-p g l =
    Leads (part_fits (g.S.StateSource.meaning l.self.source.now).grammar (g.F.Fits.says l.self.spans.now) l.self.rule)
    (length (rhs (g.S.StateSource.meaning l.self.source.now).grammar l.self.rule)) l.self.i l.self.j l.p l.before
    × Grew (PartOf (g.S.StateSource.meaning l.self.source.now).grammar (g.F.Fits.says l.self.spans.now) l.self.rule l.self.i l.self.j l.p) l.initial.nodes l.nodes
