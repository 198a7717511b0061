use Rattle.std.proofs.Common.{arith, sym, subst}
use Rattle.std.proofs.lemmas.Result.{err_from_is_err_and}
use Rattle.grammar_format.specs.Statements.{Bytes}
use Rattle.grammar.specs.Progress.{RulesRead}
use Rattle.grammar.proofs.Assembling.{unproductive_fault, all_kept, refused}
use Rattle.grammar.proofs.grammar.Grammar.read.Goals as goal

pub returns-in_err-header : goal.returns-in_err-header
returns-in_err-header c =
    let p = err_from_is_err_and c.from_residual.result c.from_residual.ensures.1 in
    rw (p.1, p.2) (refused c.args.sheet.now c.in_err-header.field-0.0 c.in_err-header.ensures)

pub returns-in-Some : goal.returns-in-Some
returns-in-Some c =
    let read = c.in_ok-header.ensures in
    let h = c.in_ok-header.field-0.header in
    let rules = subst (RulesRead c.args.sheet.now) (sym c.as_slice.ensures) read.rules_read in
    refused c.args.sheet.now _
    (unproductive_fault rules h.terminals h.nonterminals read.headed.terminals_are read.headed.nonterminals_are read.clean c.in-Some.nonterminal c.in-Some.ensures)

pub invariant_of-result : goal.invariant_of-result
invariant_of-result c =
    let bytes : Bytes c.args.sheet.now = λ k. omega (arith, c.type_inv.sheet k) in
    record {
      few_nonterminals = c.in_ok-header.field-0.header.few_nonterminals;
      held = ∣ record { kept = (all_kept bytes c.in_ok-header.ensures (rw c.as_slice.ensures at c.in_default.ensures)).0 } ∣₁;
    }

pub returns : goal.returns
returns c =
    let bytes : Bytes c.args.sheet.now = λ k. omega (arith, c.type_inv.sheet k) in
    let all = all_kept bytes c.in_ok-header.ensures (rw c.as_slice.ensures at c.in_default.ensures) in
    record { kept = all.0; same = all.1 }
