use Rattle.std.proofs.Common.{arith}
use Rattle.rows.proofs.Rows.{set_adds}
use Rattle.rows.proofs.row.Row.add.Goals as goal

pub returns : goal.returns
returns c = set_adds c.args.self.now.items c.args.rule c.args.dot (omega arith) (omega arith)
