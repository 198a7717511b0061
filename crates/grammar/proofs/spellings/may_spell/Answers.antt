use Rattle.std.proofs.Common.{rules}
use Rattle.grammar_format.specs.Breaches.{IllSpelled, lengthy, empty, no_letter}
use Rattle.grammar.proofs.spellings.may_spell.Goals as goal
use Rattle.grammar.proofs.spellings.may_spell.Goals.{then-is_empty-via-then-is_empty, then-is_empty-via-else-is_empty+then-bytes-gt12, then-is_empty-via-else-is_empty+else-bytes-gt12+then-not-are_letters}

pub returns-then-is_empty : goal.returns-then-is_empty
returns-then-is_empty c =
    elim c.then-is_empty.branch as (λ x. IllSpelled c.args.terminal c.args.bytes.now) [
      | then-is_empty-via-then-is_empty w ↦ empty (search rules) (search rules)
      | then-is_empty-via-else-is_empty+then-bytes-gt12 w ↦ lengthy w.if-bytes-gt12.true
      | then-is_empty-via-else-is_empty+else-bytes-gt12+then-not-are_letters w ↦ let (k, h, n) = w.if-not-are_letters.ensures in no_letter k h n
    ]
