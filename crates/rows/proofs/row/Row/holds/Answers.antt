use Rattle.std.proofs.Common.{sym, ◌∙◌, arith}
use Rattle.std.proofs.lemmas.Bool.{le-ltb}
use Rattle.rows.proofs.Rows.{dot_past}
use Rattle.rows.proofs.row.Row.holds.Goals as goal

pub returns-else-dot-lt8 : goal.returns-else-dot-lt8
returns-else-dot-lt8 c =
    le-ltb c.args.dot 8 (omega arith) ∙ sym (dot_past c.args.self.now.items c.args.rule c.args.dot (omega arith) (omega arith))
