use Rattle.std.proofs.Common.{arith}
use Rattle.grammar.proofs.Held.{held}
use Rattle.table_explanation.proofs.lines.rules_of.Goals as goal

pub returns-clause-some : goal.returns-clause-some
returns-clause-some c =
    omega (arith, (held c.args.grammar.now).kept.well_formed.two_rules, c.rules.ensures, c.from.ensures)
