use Rattle.std.proofs.Common.{rules, ◌≡◌, Err, ap, length, get_or, sym, ◌∙◌, arith}
use Rattle.std.proofs.lemmas.Result.{err_from_is_err_and}
use Rattle.grammar_format.specs.Breaches.{Breach, short, other_length, rules_offset, spellings_offset, overrun}
use Rattle.grammar_format.proofs.Cleaning.{clean_start}
use Rattle.grammar.specs.Heads.{Counted}
use Rattle.std.specs.Option.{ok_or}
use Rattle.grammar.specs.declared.fault.GrammarFault.TheVariants.{WholeLength}
use Rattle.grammar.proofs.Heads.{terminals_fault, nonterminals_fault, rules_fault, offset_fault}
use Rattle.grammar.proofs.header.Header.read.Goals as goal
use Rattle.grammar.proofs.header.Header.read.Goals.{then-rules_at-ne12-via-then-rules_at-ne12, then-rules_at-ne12-via-else-rules_at-ne12+then-spellings_at-end, then-rules_at-ne12-via-else-rules_at-ne12+else-spellings_at-end+then-length-end}

pub returns-in_err-length : goal.returns-in_err-length
returns-in_err-length c =
    let p = err_from_is_err_and c.from_residual.result c.from_residual.ensures.1 in
    let none = c.in_err-length.ensures.ok_part in
    let f : c.in_err-length.field-0.0 ≡ WholeLength = let g : Err c.in_err-length.field-0.0 ≡ Err WholeLength = c.in_err-length.ensures.value ∙ ap (λ o. ok_or o WholeLength) none in cc in
    rw (p.1, p.2, f) (record { applies = short (rw none at c.read_head.ensures); before = clean_start c.args.sheet.now })

pub returns-then-from-sheet : goal.returns-then-from-sheet
returns-then-from-sheet c =
    let t = rw c.in_ok-length.ensures.ok_part at c.read_head.ensures in
    record {
      applies = other_length (λ e. c.if-from-sheet.true (c.from.ensures ∙ t.first ∙ e));
      before = clean_start c.args.sheet.now;
    }

pub returns-in_err-terminals : goal.returns-in_err-terminals
returns-in_err-terminals c =
    let p = err_from_is_err_and c.from_residual-in_err-terminals.result c.from_residual-in_err-terminals.ensures.1 in
    let e = c.in_err-terminals.ensures in
    let t = rw c.in_ok-length.ensures.ok_part at c.read_head.ensures in
    rw (p.1, p.2, e.0) (terminals_fault t (sym c.from.ensures ∙ c.if-from-sheet.false) e.1)

pub returns-in_err-nonterminals : goal.returns-in_err-nonterminals
returns-in_err-nonterminals c =
    let p = err_from_is_err_and c.from_residual-in_err-nonterminals.result c.from_residual-in_err-nonterminals.ensures.1 in
    let e = c.in_err-nonterminals.ensures in
    let t = rw c.in_ok-length.ensures.ok_part at c.read_head.ensures in
    rw (p.1, p.2, e.0) (nonterminals_fault t (sym c.from.ensures ∙ c.if-from-sheet.false) e.1)

pub returns-in_err-rules : goal.returns-in_err-rules
returns-in_err-rules c =
    let p = err_from_is_err_and c.from_residual-in_err-rules.result c.from_residual-in_err-rules.ensures.1 in
    let e = c.in_err-rules.ensures in
    let t = rw c.in_ok-length.ensures.ok_part at c.read_head.ensures in
    rw (p.1, p.2, e.0) (rules_fault t (sym c.from.ensures ∙ c.if-from-sheet.false) e.1)

pub returns-then-rules_at-ne12 : goal.returns-then-rules_at-ne12
returns-then-rules_at-ne12 c =
    let b = c.args.sheet.now in
    let t = rw c.in_ok-length.ensures.ok_part at c.read_head.ensures in
    let whole : get_or c.in_ok-length.field-0 0 0 ≡ length b = sym c.from.ensures ∙ c.if-from-sheet.false in
    let counted : Counted b = search rules in
    offset_fault t whole counted
    (elim c.then-rules_at-ne12.branch as (λ x. Breach b 12 0) [
      | then-rules_at-ne12-via-then-rules_at-ne12 w ↦ rules_offset (λ e. w.if-rules_at-ne12.true (t.fifth ∙ e))
      | then-rules_at-ne12-via-else-rules_at-ne12+then-spellings_at-end w ↦
          spellings_offset (λ e. w.if-spellings_at-end.true (omega (arith, t.sixth, t.fourth, c.in_ok-rules.ensures.0)))
      | then-rules_at-ne12-via-else-rules_at-ne12+else-spellings_at-end+then-length-end w ↦ overrun (omega (arith, t.fourth, c.in_ok-rules.ensures.0, whole))
    ])
