use Rattle.std.proofs.Common.{sym, subst}
use Rattle.grammar.specs.Progress.{RulesRead, SpellingsRead}
use Rattle.grammar.proofs.Assembling.{goal_fault, goal_clean, repeated_fault, repeated_clean}
use Rattle.grammar.proofs.reads.read_parts.Goals as goal

pub returns-in-Some : goal.returns-in-Some
returns-in-Some c =
    let read = subst (RulesRead c.args.sheet.now) (sym c.as_slice.ensures) c.in_ok-rules.ensures in
    goal_fault read c.in_ok-header.header.terminals c.in_ok-header.ensures.terminals_are c.in-Some.rule c.in-Some.ensures

pub read_spellings-requires-clause-clean : goal.read_spellings-requires-clause-clean
read_spellings-requires-clause-clean c =
    let read = subst (RulesRead c.args.sheet.now) (sym c.as_slice.ensures) c.in_ok-rules.ensures in
    goal_clean read c.in_ok-header.header.terminals c.in_ok-header.ensures.terminals_are c.in_default.ensures

pub returns-in-Some-first_repeated : goal.returns-in-Some-first_repeated
returns-in-Some-first_repeated c =
    let read = subst (SpellingsRead c.args.sheet.now) (sym c.as_slice-2.ensures) c.in_ok-spellings.ensures in
    repeated_fault read c.in-Some-first_repeated.terminal c.in-Some-first_repeated.ensures

pub returns : goal.returns
returns c =
    let read = subst (SpellingsRead c.args.sheet.now) (sym c.as_slice-2.ensures) c.in_ok-spellings.ensures in
    record {
      headed = c.in_ok-header.ensures;
      rules_read = c.in_ok-rules.ensures;
      spellings_read = c.in_ok-spellings.ensures;
      clean = repeated_clean read c.in_default-first_repeated.ensures;
    }
