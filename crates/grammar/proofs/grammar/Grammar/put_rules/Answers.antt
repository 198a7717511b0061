use Rattle.std.proofs.Common.{ℕ, ◌*◌, List, length, sym, ap, ◌∙◌, subst, arith, take_all}
use Rattle.std.specs.List.{flat_map}
use Rattle.grammar.specs.Holding.{rule_block}
use Rattle.grammar.specs.Writing.{Put}
use Rattle.grammar.proofs.Lists.{count_items}
use Rattle.grammar.proofs.Held.{count_is}
use Rattle.grammar.proofs.Putting.{put_next, put_behind, rest_size}
use Rattle.grammar.proofs.Pieces.{block_size, blocks_size, rules_are, rules_size}
use Rattle.grammar.proofs.grammar.Grammar.put_rules.Goals as goal

pub slice_bounds-put-count : goal.slice_bounds-put-count
slice_bounds-put-count c =
    let g = c.args.self.now in
    omega (arith, ap length c.as_slice-rule-items.ensures, count_items g.rules, count_is g, rules_size g)

pub slice_bounds-put-start : goal.slice_bounds-put-start
slice_bounds-put-start c =
    let g = c.args.self.now in
    omega (arith, ap length c.as_slice-rule-items.ensures, count_items g.rules, count_is g, rules_size g)

pub put-requires : goal.put-requires
put-requires c =
    let g = c.args.self.now in
    omega (
      arith,
      ap length c.as_slice-rule-items.ensures,
      count_items g.rules,
      count_is g,
      rules_size g,
      rest_size c.loop-r.room (9 * c.loop-r.r),
      ap length c.block.ensures,
      block_size c.rule-item.result,
    )

pub loop-r-preserved : goal.loop-r-preserved
loop-r-preserved c =
    let ps = c.as_slice-rule-items.result.now in
    let p = c.rule-item.result in
    put_next rule_block ps c.loop-r.r p c.args.room.now c.loop-r.room _ c.block.result 0 (9 * c.loop-r.r)
    (omega arith) c.loop-r-test.true (omega (arith, blocks_size ps c.loop-r.r p (omega arith)))
    (c.block.ensures ∙ ap rule_block c.rule-item.is) c.loop-r.invariant (put_behind c.loop-r.room c.put.new.room c.block.result (9 * c.loop-r.r) c.put.ensures)

pub returns : goal.returns
returns c =
    let ps = c.as_slice-rule-items.result.now in
    subst (λ (xs : List ℕ). Put c.args.room.now 0 xs c.loop-r.room)
    (ap (flat_map rule_block) (take_all c.loop-r.r ps (omega arith) ∙ c.as_slice-rule-items.ensures) ∙ sym (rules_are c.args.self.now)) c.loop-r.invariant
