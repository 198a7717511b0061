use Rattle.std.proofs.Common.{take}
use Rattle.std.specs.List.{flat_map}
use Rattle.grammar.specs.Holding.{rule_block}
use Rattle.grammar.specs.Writing.{Put}
use Rattle.grammar.proofs.grammar.Grammar.put_rules.Given as goal

abbrev pub invariant-loop-r : goal.invariant-loop-r
invariant-loop-r l = Put l.initial.room 0 (flat_map rule_block (take l.r l.rule-items)) l.room
