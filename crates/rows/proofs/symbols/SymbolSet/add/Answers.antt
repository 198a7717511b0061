use Rattle.std.proofs.Common.{arith}
use Rattle.rows.proofs.Rows.{bit_joins}
use Rattle.rows.proofs.symbols.SymbolSet.add.Goals as goal

pub returns-then-symbol-lt64 : goal.returns-then-symbol-lt64
returns-then-symbol-lt64 c = bit_joins c.args.self.now.bits c.args.symbol (omega arith)
