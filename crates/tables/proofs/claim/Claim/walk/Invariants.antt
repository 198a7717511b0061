use Rattle.std.proofs.Common.{◌-◌, ◌<◌, ◌≤◌, length}
use Rattle.grammar.specs.Meaning.{meaning}
use Rattle.table_format.specs.ItemSets.{symbols}
use Rattle.tables.specs.Lists.{listed}
use Rattle.tables.specs.Trying.{Along}
use Rattle.tables.proofs.claim.Claim.walk.Given as goal

abbrev pub invariant-loop-place : goal.invariant-loop-place
invariant-loop-place l = Along l.self (listed l.known) l.place 0 0 × (l.place ≤ length (listed l.known))

abbrev pub decreases-loop-place : goal.decreases-loop-place
decreases-loop-place l = l.self.header.states - l.place

abbrev pub invariant-loop-symbol : goal.invariant-loop-symbol
invariant-loop-symbol l = Along l.self (listed l.known) l.place l.symbol 0 × (l.place < length (listed l.known))

abbrev pub invariant-loop-rule : goal.invariant-loop-rule
invariant-loop-rule l = Along l.self (listed l.known) l.place (symbols (meaning l.self.grammar.now)) l.rule
