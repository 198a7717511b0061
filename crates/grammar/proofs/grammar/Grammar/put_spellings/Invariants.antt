use Rattle.std.proofs.Common.{◌≡◌, length, take}
use Rattle.std.specs.List.{flat_map}
use Rattle.grammar.specs.Holding.{spelling_piece}
use Rattle.grammar.specs.Writing.{Put}
use Rattle.grammar.proofs.grammar.Grammar.put_spellings.Given as goal

abbrev pub invariant-loop-spelling : goal.invariant-loop-spelling
invariant-loop-spelling l =
    Put l.initial.room 0 (flat_map spelling_piece (take l.spelling-index l.spelling-items)) l.room
    × (l.at ≡ length (flat_map spelling_piece (take l.spelling-index l.spelling-items)))
