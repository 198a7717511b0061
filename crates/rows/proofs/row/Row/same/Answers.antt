use Rattle.std.proofs.Common.{arith}
use Rattle.std.proofs.lemmas.Slice.Eq.{slice_eq-Decides}
use Rattle.std.proofs.lemmas.Bool.Decides.{Decides-eqb}
use Rattle.rows.proofs.Rows.{same_rows}
use Rattle.rows.proofs.row.Row.same.Goals as goal

pub returns-clause-items : goal.returns-clause-items
returns-clause-items c =
    same_rows c.args.self.now c.args.other.now c.eq.result (omega arith) (slice_eq-Decides Decides-eqb _ _ _ c.eq.ensures)
