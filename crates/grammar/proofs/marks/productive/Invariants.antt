use Rattle.std.proofs.Common.{ℕ}
use Rattle.grammar.specs.Holding.{grammar_from}
use Rattle.grammar.specs.Marking.{Within, Sound, unmarked}
use Rattle.grammar.proofs.marks.productive.Given as goal

abbrev pub invariant-loop : goal.invariant-loop
invariant-loop l = Within l.initial.marks l.marks × ((N : ℕ) → Sound (grammar_from l.fn.header.terminals N l.rules) l.marks)

abbrev pub decreases-loop : goal.decreases-loop
decreases-loop l = unmarked l.marks 256
