use Rattle.std.proofs.Common.{sym, ◌∙◌, subst, arith, rules}
use Rattle.grammar.specs.Meaning.{meaning}
use Rattle.table_format.specs.Breaches.{by_form, short, other_length, few_states, many_states, other_symbols, other_rules, steps_offset, marks_offset, uncounted}
use Rattle.table_format.proofs.Cleaning.{clean_start}
use Rattle.states.specs.declared.fault.TableFault.TheVariants.{WholeLength, CountRange}
use Rattle.tables.specs.Faults.{Faulty}
use Rattle.tables.specs.Heads.{Long, Counted, Told}
use Rattle.std.proofs.lemmas.Result.{err_from_is_err_and}
use Rattle.tables.proofs.Heads.{err_same, fits, fits_not, clean_long, clean_counted, marks_told, ends_told}
use Rattle.tables.proofs.header.Header.read.Goals as goal
use Rattle.tables.proofs.header.Header.read.Goals.{then-states-eq0-via-then-states-eq0, then-states-eq0-via-else-states-eq0+then-symbols-layout, then-states-eq0-via-else-states-eq0+else-symbols-layout+then-rules-layout}
use Rattle.tables.proofs.header.Header.read.Goals.{then-steps_at-ne12-via-then-steps_at-ne12, then-steps_at-ne12-via-else-steps_at-ne12+then-from-marks_at, then-steps_at-ne12-via-else-steps_at-ne12+else-from-marks_at+then-sheet-sheet_len}

pub returns-in_err-numbers-clause-cases : goal.returns-in_err-numbers-clause-cases
returns-in_err-numbers-clause-cases c =
    let h : Faulty (meaning c.args.grammar.now) c.args.sheet.now WholeLength = by_form (record { applies = short (rw c.in_err-numbers.ensures.ok_part at c.read_head.ensures); before = clean_start }) in
    let p = err_from_is_err_and c.from_residual.result c.from_residual.ensures.1 in
    let e = rw c.in_err-numbers.ensures.ok_part at c.in_err-numbers.ensures.value in
    rw (p.1, p.2) (subst (Faulty (meaning c.args.grammar.now) c.args.sheet.now) (sym (err_same e)) h)

pub returns-then-from-sheet-clause-cases : goal.returns-then-from-sheet-clause-cases
returns-then-from-sheet-clause-cases c =
    let tells = rw c.in_ok-numbers.ensures.ok_part at c.read_head.ensures in
    by_form (record {
      applies = other_length (λ e. c.if-from-sheet.true (c.from.ensures ∙ tells.first ∙ e));
      before = clean_start;
    })

pub returns-in_err-states-clause-cases : goal.returns-in_err-states-clause-cases
returns-in_err-states-clause-cases c =
    let tells = rw c.in_ok-numbers.ensures.ok_part at c.read_head.ensures in
    let long : Long c.args.sheet.now = record { head = tells.head; whole = sym tells.first ∙ sym c.from.ensures ∙ c.if-from-sheet.false } in
    let big = fits_not c.try_from.result _ c.try_from.ensures c.in_err-states.ensures.variant in
    let h : Faulty (meaning c.args.grammar.now) c.args.sheet.now CountRange =
    by_form (record {
      applies = many_states (omega (arith, big, tells.second));
      before = clean_long (meaning c.args.grammar.now) c.args.sheet.now long;
    }) in
    search rules

pub returns-then-states-eq0-clause-cases : goal.returns-then-states-eq0-clause-cases
returns-then-states-eq0-clause-cases c =
    let tells = rw c.in_ok-numbers.ensures.ok_part at c.read_head.ensures in
    let long : Long c.args.sheet.now = record { head = tells.head; whole = sym tells.first ∙ sym c.from.ensures ∙ c.if-from-sheet.false } in
    let fit = fits c.try_from.result _ c.in_ok-states.states c.try_from.ensures c.in_ok-states.ensures.cases in
    let before = clean_long (meaning c.args.grammar.now) c.args.sheet.now long in
    elim c.then-states-eq0.branch [
      | then-states-eq0-via-then-states-eq0 w ↦ by_form (record { applies = few_states (omega (arith, tells.second, fit.0, fit.1, w.if-states-eq0.true)); before = before })
      | then-states-eq0-via-else-states-eq0+then-symbols-layout w ↦ by_form (record { applies = other_symbols (λ e. (rw c.layout-layout.ensures at w.if-symbols-layout.true) (omega (arith, tells.third, c.symbols.ensures.value, e))); before = before })
      | then-states-eq0-via-else-states-eq0+else-symbols-layout+then-rules-layout w ↦ by_form (record { applies = other_rules (λ e. (rw c.layout-layout.ensures at w.if-rules-layout.true) (omega (arith, tells.fourth, c.rules.ensures, e))); before = before })
    ]

pub returns-then-steps_at-ne12-clause-cases : goal.returns-then-steps_at-ne12-clause-cases
returns-then-steps_at-ne12-clause-cases c =
    let tells = rw c.in_ok-numbers.ensures.ok_part at c.read_head.ensures in
    let long : Long c.args.sheet.now = record { head = tells.head; whole = sym tells.first ∙ sym c.from.ensures ∙ c.if-from-sheet.false } in
    let fit = fits c.try_from.result _ c.in_ok-states.states c.try_from.ensures c.in_ok-states.ensures.cases in
    let told : Told c.args.sheet.now (record { states = c.in_ok-states.states; symbols = c.symbols.result; rules = c.rules.result }) = record {
      states_are = omega (arith, fit.0, fit.1, tells.second);
      symbols_are = omega (arith, rw c.layout-layout.ensures at c.if-symbols-layout.false, tells.third);
      rules_are = omega (arith, rw c.layout-layout.ensures at c.if-rules-layout.false, tells.fourth);
    } in
    let counted : Counted (meaning c.args.grammar.now) c.args.sheet.now = record {
      some_states = omega (arith, told.states_are);
      few_states = omega (arith, told.states_are, fit.0, fit.1);
      same_symbols = omega (arith, told.symbols_are, c.symbols.ensures.value);
      same_rules = omega (arith, told.rules_are, c.rules.ensures);
    } in
    let before = clean_counted (meaning c.args.grammar.now) c.args.sheet.now long counted in
    elim c.then-steps_at-ne12.branch [
      | then-steps_at-ne12-via-then-steps_at-ne12 w ↦ by_form (record { applies = steps_offset (λ e. w.if-steps_at-ne12.true (tells.fifth ∙ e)); before = before })
      | then-steps_at-ne12-via-else-steps_at-ne12+then-from-marks_at w ↦
          by_form (record { applies = marks_offset (λ e. w.if-from-marks_at.true (omega (arith, w.from-else-steps_at-ne12.ensures, tells.sixth, rw c.layout-layout.ensures at w.marks_at.ensures, marks_told told))); before = before })
      | then-steps_at-ne12-via-else-steps_at-ne12+else-from-marks_at+then-sheet-sheet_len w ↦
          by_form (record { applies = uncounted (λ e. w.if-sheet-sheet_len.true (e ∙ sym (ends_told told) ∙ sym (rw c.layout-layout.ensures at w.sheet_len.ensures))); before = before })
    ]
