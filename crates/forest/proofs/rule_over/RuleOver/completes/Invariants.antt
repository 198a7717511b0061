use Rattle.std.proofs.Common.{◌≤◌, length}
use Rattle.parsing.specs.Grammar.{rhs}
use Rattle.spans.specs.Spans.{part_fits}
use Rattle.forest.specs.Marks.{Completes}
use Rattle.forest.proofs.rule_over.RuleOver.completes.Given as goal

abbrev pub invariant-loop-p : goal.invariant-loop-p
invariant-loop-p g l =
    (l.p ≤ length (rhs (g.S.StateSource.meaning l.self.source.now).grammar l.self.rule))
    × Completes (part_fits (g.S.StateSource.meaning l.self.source.now).grammar (g.F.Fits.says l.self.spans.now) l.self.rule)
    (length (rhs (g.S.StateSource.meaning l.self.source.now).grammar l.self.rule)) l.self.i l.self.j l.rows l.p
