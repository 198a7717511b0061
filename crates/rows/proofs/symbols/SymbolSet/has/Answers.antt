use Rattle.std.proofs.Common.{sym, ◌∙◌, arith}
use Rattle.std.proofs.lemmas.Bool.{le-ltb}
use Rattle.rows.proofs.Rows.{on_past}
use Rattle.rows.proofs.symbols.SymbolSet.has.Goals as goal

pub returns-else-symbol-lt64 : goal.returns-else-symbol-lt64
returns-else-symbol-lt64 c =
    le-ltb c.args.symbol 64 (omega arith) ∙ sym (on_past c.args.self.now.bits 64 c.args.symbol (omega arith) (omega arith))
