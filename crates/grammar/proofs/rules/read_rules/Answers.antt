use Rattle.std.proofs.Common.{◌≡◌, Err, get_or, ℕ, ◌+◌, List, [], ◌∷◌, ◌++◌, map, length, sym, ap, ◌∙◌, ap₂, arith}
use Rattle.std.proofs.lemmas.List.{map_push, length_push}
use Rattle.std.proofs.lemmas.Result.{err_from_is_err_and}
use Rattle.std.specs.Option.{ok_or}
use Rattle.grammar.specs.declared.fault.GrammarFault.TheVariants.{RuleForm}
use Rattle.grammar_format.specs.Sheets.{rules_end}
use Rattle.grammar_format.specs.Fields.{rules, block, listed}
use Rattle.grammar_format.specs.Breaches.{rule_form}
use Rattle.grammar_format.proofs.Cleaning.{clean_at, clean_row}
use Rattle.grammar_format.proofs.Listed.{listed_none, listed_more}
use Rattle.grammar.specs.Holding.{rule_block}
use Rattle.grammar.specs.Lists.{items}
use Rattle.grammar.proofs.Heads.{clean_placed}
use Rattle.grammar.proofs.Blocks.{chunk_count, chunk_is, block_ill, block_fine, no_breach, no_breach_past}
use Rattle.grammar.proofs.rules.read_rules.Goals as goal

pub loop-r-init : goal.loop-r-init
loop-r-init c = (
  ap length c.over-rules.ensures,
  ap (map rule_block) c.over-rules.ensures ∙ sym (listed_none (block c.args.sheet.now)),
  clean_placed c.args.sheet.now c.requires.long c.requires.counted c.requires.placed,
)

pub returns-in_err-rule : goal.returns-in_err-rule
returns-in_err-rule c =
    let b = c.args.sheet.now in
    let r = c.loop-r.r in
    let p = err_from_is_err_and c.from_residual.result c.from_residual.ensures.1 in
    let none = c.in_err-rule.ensures.ok_part in
    let f : c.in_err-rule.field-0.0 ≡ RuleForm r = let g : Err c.in_err-rule.field-0.0 ≡ Err (RuleForm r) = c.in_err-rule.ensures.value ∙ ap (λ o. ok_or o (RuleForm r)) none in cc in
    let i : c.from.result ≡ rules_end (rules c.args.sheet.now) = c.from.ensures ∙ c.rules_end.ensures ∙ ap rules_end c.requires.rules_are in
    let n : length c.as_chunks.result.0.now ≡ rules b = c.as_chunks.ensures.front_len ∙ chunk_count b (rules b) c.from.result i (omega (arith, c.requires.placed.fit)) in
    let e : get_or c.as_chunks.result.0.now r [] ≡ block b r = ap (λ xs. get_or xs r []) c.as_chunks.ensures.front ∙ chunk_is b (rules b) _ r c.from.result i (omega (arith, c.as_chunks.ensures.front_len)) (omega (arith, n, c.as_chunks.ensures.front_len)) in
    rw (p.1, p.2, f) (record {
      applies = rule_form {r = r} (omega (arith, n)) (block_ill b r c.requires.terminals_are c.requires.nonterminals_are _ e (rw none at c.read.ensures));
      before = c.loop-r.invariant.2;
    })

pub loop-r-preserved : goal.loop-r-preserved
loop-r-preserved c =
    let b = c.args.sheet.now in
    let r = c.loop-r.r in
    let ps = items c.loop-r.rules in
    let p = c.in_ok-rule.rule in
    let told = rw c.in_ok-rule.ensures.ok_part at c.read.ensures in
    let i : c.from.result ≡ rules_end (rules c.args.sheet.now) = c.from.ensures ∙ c.rules_end.ensures ∙ ap rules_end c.requires.rules_are in
    let n : length c.as_chunks.result.0.now ≡ rules b = c.as_chunks.ensures.front_len ∙ chunk_count b (rules b) c.from.result i (omega (arith, c.requires.placed.fit)) in
    let e : get_or c.as_chunks.result.0.now r [] ≡ block b r = ap (λ xs. get_or xs r []) c.as_chunks.ensures.front ∙ chunk_is b (rules b) _ r c.from.result i (omega (arith, c.as_chunks.ensures.front_len)) (omega (arith, n, c.as_chunks.ensures.front_len)) in (
      ap length c.push.ensures ∙ length_push ps p ∙ ap (λ (n : ℕ). n + 1) c.loop-r.invariant.0,
      ap (map rule_block) c.push.ensures ∙ map_push rule_block ps p
          ∙ ap₂ (λ (us : List (List ℕ)) (u : List ℕ). us ++ u ∷ []) c.loop-r.invariant.1 (told.0 ∙ e)
          ∙ sym (listed_more (block b) r),
      clean_at r c.loop-r.invariant.2
          (no_breach (block_fine b r c.requires.terminals_are c.requires.nonterminals_are _ e told.1)),
    )

pub returns : goal.returns
returns c =
    let i : c.from.result ≡ rules_end (rules c.args.sheet.now) = c.from.ensures ∙ c.rules_end.ensures ∙ ap rules_end c.requires.rules_are in
    let e : c.loop-r.r ≡ rules c.args.sheet.now = omega (arith, c.as_chunks.ensures.front_len, chunk_count c.args.sheet.now (rules c.args.sheet.now) c.from.result i (omega (arith, c.requires.placed.fit))) in
    record {
      same = c.loop-r.invariant.1 ∙ ap (listed (block c.args.sheet.now)) e;
      clean = clean_row {n = 13} c.loop-r.r c.loop-r.invariant.2 (λ q h. no_breach_past (omega arith));
    }
