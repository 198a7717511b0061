use Rattle.std.proofs.Common.{◌≡◌}
use Rattle.links.specs.Sets.{cells_of}
use Rattle.links.specs.Tables.{content}
use Rattle.links.proofs.Spreads.{Spreading}
use Rattle.links.proofs.levels.spread.Given as goal

abbrev pub invariant-loop-k : goal.invariant-loop-k
invariant-loop-k l = (cells_of l.here ≡ cells_of l.initial.here) × Spreading (content l.table) (cells_of l.initial.here) l.k (cells_of l.there)
