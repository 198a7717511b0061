use Rattle.std.proofs.Common.{◌≡◌, ℕ, ◌≤◌, true}
use Rattle.forest.specs.Marks.{Added}
use Rattle.forest.proofs.Rows.{Upto}
use Rattle.forest.proofs.part.Part.mark_begins.Given as goal

abbrev pub invariant-loop-a : goal.invariant-loop-a
invariant-loop-a g l = Added (Upto (λ (a : ℕ). (l.self.i ≤ a) × (g.F.Fits.says l.self.spans.now l.self.symbol a l.b ≡ true)) l.a) l.initial.row l.row
