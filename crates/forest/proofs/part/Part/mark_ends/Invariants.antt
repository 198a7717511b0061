use Rattle.std.proofs.Common.{◌≡◌, ℕ, ◌≤◌, true}
use Rattle.forest.specs.Marks.{Marked, Added}
use Rattle.forest.proofs.Rows.{Upto}
use Rattle.forest.proofs.part.Part.mark_ends.Given as goal

abbrev pub invariant-loop-b : goal.invariant-loop-b
invariant-loop-b g l = Added (Upto (λ (b : ℕ). (b ≤ l.self.j) × (g.F.Fits.says l.self.spans.now l.self.symbol l.a b ≡ true) × Marked l.self.next.now b) l.b) l.initial.row l.row
