use Rattle.forest.specs.Tables.{told, Grown, OfWord}
use Rattle.forest.proofs.span_table.SpanTable.add_words.Given as goal

abbrev pub invariant-loop-i : goal.invariant-loop-i
invariant-loop-i g l =
    Grown (OfWord (g.S.StateSource.meaning l.source).grammar l.words l.i) (told l.initial.self.cells) (told l.self.cells)
