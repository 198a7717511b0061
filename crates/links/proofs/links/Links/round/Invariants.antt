use Rattle.links.proofs.Rounds.{Rules}
use Rattle.links.proofs.links.Links.round.Given as goal

abbrev pub invariant-loop-rule : goal.invariant-loop-rule
invariant-loop-rule g l = Rules (g.S.StateSource.meaning l.over.source.now) l.initial.self.table l.self.table l.over.limit l.rule
