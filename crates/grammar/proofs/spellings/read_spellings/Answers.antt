use Rattle.std.proofs.Common.{◌≡◌, Err, ℕ, ◌+◌, List, [], ◌∷◌, ◌++◌, map, length, sym, ap, ◌∙◌, subst, ap₂, arith}
use Rattle.std.proofs.lemmas.List.{map_push, length_push}
use Rattle.std.proofs.lemmas.Bool.{eqb-false}
use Rattle.std.proofs.lemmas.Result.{err_from_is_err_and}
use Rattle.std.specs.Option.{ok_or}
use Rattle.grammar.specs.declared.fault.GrammarFault.TheVariants.{SpellingForm}
use Rattle.grammar_format.specs.Sheets.{rules_end}
use Rattle.grammar_format.specs.Fields.{remains, spelling}
use Rattle.grammar_format.specs.Breaches.{CleanTo}
use Rattle.grammar_format.proofs.Cleaning.{clean_at}
use Rattle.grammar_format.proofs.Listed.{listed_none, listed_more}
use Rattle.grammar.specs.Lists.{items}
use Rattle.grammar.proofs.Splitting.{remains_first, spelled_is, misspelled, well_read, cut_here, rest_is, over_here}
use Rattle.grammar.proofs.spellings.read_spellings.Goals as goal

pub loop-t-init : goal.loop-t-init
loop-t-init c = (
  ap length c.over-spellings.ensures,
  ap (map items) c.over-spellings.ensures ∙ sym (listed_none (spelling c.args.sheet.now)),
  remains_first c.args.sheet.now c.from.result (c.from.ensures ∙ c.rules_end.ensures ∙ ap rules_end c.requires.headed.rules_are),
  c.requires.clean,
)

pub returns-in_err-bytes : goal.returns-in_err-bytes
returns-in_err-bytes c =
    let t = c.loop-t.t in
    let p = err_from_is_err_and c.from_residual.result c.from_residual.ensures.1 in
    let none = c.in_err-bytes.ensures.ok_part in
    let f : c.in_err-bytes.field-0.0 ≡ SpellingForm t = let g : Err c.in_err-bytes.field-0.0 ≡ Err (SpellingForm t) = c.in_err-bytes.ensures.value ∙ ap (λ o. ok_or o (SpellingForm t)) none in cc in
    rw (p.1, p.2, f) (record {
      applies = cut_here c.args.sheet.now t c.loop-t.rest.now c.loop-t.invariant.2 (omega arith) (rw none at c.read_spelling.ensures);
      before = c.loop-t.invariant.3;
    })

pub returns-then-not-may_spell : goal.returns-then-not-may_spell
returns-then-not-may_spell c =
    let read = rw c.in_ok-bytes.ensures.ok_part at c.read_spelling.ensures in
    record {
      applies =
          misspelled c.args.sheet.now c.loop-t.t c.loop-t.rest.now c.in_ok-bytes.bytes.now c.loop-t.invariant.2 read.1
          (omega arith) c.if-not-may_spell.ensures;
      before = c.loop-t.invariant.3;
    }

pub loop-t-preserved : goal.loop-t-preserved
loop-t-preserved c =
    let b = c.args.sheet.now in
    let t = c.loop-t.t in
    let z = c.loop-t.rest.now in
    let w = c.in_ok-bytes.bytes.now in
    let read = rw c.in_ok-bytes.ensures.ok_part at c.read_spelling.ensures in
    let inv = c.loop-t.invariant in
    let ws = items c.loop-t.spellings in (
      ap length c.push.ensures ∙ length_push ws c.of.result ∙ ap (λ (n : ℕ). n + 1) inv.0,
      ap (map items) c.push.ensures ∙ map_push items ws c.of.result
          ∙ ap₂ (λ (us : List (List ℕ)) (u : List ℕ). us ++ u ∷ []) inv.1 (c.of.ensures ∙ spelled_is b t z w inv.2 read.1)
          ∙ sym (listed_more (spelling b) t),
      rest_is b t z c.in_ok-bytes.remains.now inv.2 read.2,
      clean_at t inv.3 (well_read b t z w inv.2 read.1 (omega arith) read.0 c.if-not-may_spell.ensures),
    )

pub returns-then-not-is_empty : goal.returns-then-not-is_empty
returns-then-not-is_empty c =
    let b = c.args.sheet.now in
    let z = c.loop-t.rest.now in
    let e : c.loop-t.t ≡ c.from-terminals.result = omega arith in
    record {
      applies =
          over_here b c.from-terminals.result z (c.from-terminals.ensures ∙ c.requires.headed.terminals_are)
          (c.loop-t.invariant.2 ∙ ap (remains b) e) (omega (arith, eqb-false (length z) 0 (sym c.if-not-is_empty.ensures)));
      before = subst (CleanTo b 15) e c.loop-t.invariant.3;
    }
