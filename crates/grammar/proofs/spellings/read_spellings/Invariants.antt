use Rattle.std.proofs.Common.{◌≡◌, length}
use Rattle.grammar_format.specs.Fields.{remains, spelling, listed}
use Rattle.grammar_format.specs.Breaches.{CleanTo}
use Rattle.grammar.specs.Holding.{words}
use Rattle.grammar.specs.Lists.{items}
use Rattle.grammar.proofs.spellings.read_spellings.Given as goal

abbrev pub invariant-loop-t : goal.invariant-loop-t
invariant-loop-t l =
    (length (items l.spellings) ≡ l.t)
    × (words (items l.spellings) ≡ listed (spelling l.sheet) l.t)
    × (l.rest ≡ remains l.sheet l.t)
    × CleanTo l.sheet 15 l.t
