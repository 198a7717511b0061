use Rattle.std.proofs.Common.{◌≡◌, arith}
use Rattle.parsing.specs.Grammar.{rule_count}
use Rattle.grammar.specs.Meaning.{meaning}
use Rattle.table_format.specs.ItemSets.{symbols}
use Rattle.table_format.specs.Sheets.{ends_at}
use Rattle.built_states.proofs.Writing.{sheet_length, marks_few, ends_few}
use Rattle.built_states.proofs.built.BuiltStates.sheet_len.Goals as goal

pub returns-clause-value : goal.returns-clause-value
returns-clause-value c = cc (sheet_length c.args.self.now)

pub returns-clause-bound : goal.returns-clause-bound
returns-clause-bound c =
    let b = c.args.self.now in
    let e : c.sheet_len.result ≡ ends_at b.building.count (symbols (meaning b.grammar)) (rule_count (meaning b.grammar)) = cc in
    omega (arith, marks_few b, ends_few b)
