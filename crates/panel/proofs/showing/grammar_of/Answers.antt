use Rattle.std.proofs.Common.{rules, ◌≡◌, Err}
use Rattle.panel.specs.Outcomes.{long_grammar, long_table, long_words, grammar_refused}
use Rattle.panel.specs.declared.fault.Fault.TheVariants.{Grammar}
use Rattle.panel.proofs.showing.grammar_of.Goals as goal

pub returns-in_err-check_length : goal.returns-in_err-check_length
returns-in_err-check_length c =
    let why : c.from_residual.result ≡ Err c.in_err-check_length.field-0.0 = search rules in
    let (l, e) = c.in_err-check_length.ensures in
    rw (why, e) (long_grammar l)

pub returns-in_err-check_length-2 : goal.returns-in_err-check_length-2
returns-in_err-check_length-2 c =
    let why : c.from_residual-in_err-check_length-2.result ≡ Err c.in_err-check_length-2.field-0.0 = search rules in
    let (l, e) = c.in_err-check_length-2.ensures in
    rw (why, e) (long_table c.in_ok-check_length.ensures l)

pub returns-in_err-check_length-3 : goal.returns-in_err-check_length-3
returns-in_err-check_length-3 c =
    let why : c.from_residual-in_err-check_length-3.result ≡ Err c.in_err-check_length-3.field-0.0 = search rules in
    let (l, e) = c.in_err-check_length-3.ensures in
    rw (why, e) (long_words c.in_ok-check_length.ensures c.in_ok-check_length-2.ensures l)

pub returns-in_err-read : goal.returns-in_err-read
returns-in_err-read c =
    let why : c.from_residual-in_err-read.result ≡ Err (Grammar c.in_err-read.field-0.0) = search rules in
    rw why (grammar_refused c.in_err-read.field-0.0 (record { grammar = c.in_ok-check_length.ensures; table = c.in_ok-check_length-2.ensures; words = c.in_ok-check_length-3.ensures })
    c.in_err-read.ensures)
