use Rattle.std.proofs.Common.{◌≡◌, length, map}
use Rattle.grammar_format.specs.Fields.{block, listed}
use Rattle.grammar_format.specs.Breaches.{CleanTo}
use Rattle.grammar.specs.Holding.{rule_block}
use Rattle.grammar.specs.Lists.{items}
use Rattle.grammar.proofs.rules.read_rules.Given as goal

abbrev pub invariant-loop-r : goal.invariant-loop-r
invariant-loop-r l =
    (length (items l.rules) ≡ l.r) × (map rule_block (items l.rules) ≡ listed (block l.sheet) l.r) × CleanTo l.sheet 13 l.r
