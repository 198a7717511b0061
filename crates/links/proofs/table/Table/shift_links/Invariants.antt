use Rattle.links.proofs.Keeps.{Shifting}
use Rattle.links.proofs.table.Table.shift_links.Given as goal

abbrev pub invariant-loop-k : goal.invariant-loop-k
invariant-loop-k g l = Shifting (g.S.StateSource.meaning l.word.symbol.over.now.source.now) l.word.symbol.x l.initial.self l.self l.word.symbol.over.now.limit l.start l.k
