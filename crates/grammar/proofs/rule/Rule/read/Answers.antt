use Rattle.std.proofs.Common.{◌+◌, arith}
use Rattle.grammar_format.specs.Breaches.{IllFormed}
use Rattle.grammar.proofs.Blocks.{unknown_at, unfilled_at, well_formed, block_same}
use Rattle.grammar.proofs.rule.Rule.read.Goals as goal
use Rattle.grammar.proofs.rule.Rule.read.Goals.{then-not-are_symbols-via-then-not-are_symbols, then-not-are_symbols-via-else-not-are_symbols+then-not-are_blank}

pub returns-then-not-are_symbols : goal.returns-then-not-are_symbols
returns-then-not-are_symbols c =
    let x = c.args.block.now in
    let T = c.args.header.terminals in
    let K = c.args.header.terminals + c.args.header.nonterminals in
    elim c.then-not-are_symbols.branch as (λ y. IllFormed T K x) [
      | then-not-are_symbols-via-then-not-are_symbols w ↦
          let (d, h, k) = w.if-not-are_symbols.ensures in
          unknown_at x c.told-block c.from.result c.from.ensures c.if-length-gt7.false _ _ c.split_at.ensures.front c.split_at.ensures.back T K (d, h, omega (arith, k, c.symbols-symbols.ensures))
      | then-not-are_symbols-via-else-not-are_symbols+then-not-are_blank w ↦
          unfilled_at x c.told-block c.from.result c.from.ensures c.if-length-gt7.false _ _ c.split_at.ensures.front c.split_at.ensures.back T K w.if-not-are_blank.ensures
    ]

pub returns : goal.returns
returns c =
    let T = c.args.header.terminals in
    let K = c.args.header.terminals + c.args.header.nonterminals in (
      block_same c.args.block.now c.told-block c.from.result c.from.ensures c.if-length-gt7.false _ _ c.split_at.ensures.front c.split_at.ensures.back
          T K c.if-left-header.false (omega (arith, c.symbols-symbols.ensures))
          (λ d h. omega (arith, c.if-not-are_symbols.ensures d h, c.symbols-symbols.ensures)) c.if-not-are_blank.ensures _ c.of.ensures,
      well_formed c.args.block.now c.told-block c.from.result c.from.ensures c.if-length-gt7.false _ _ c.split_at.ensures.front c.split_at.ensures.back
          T K c.if-left-header.false (omega (arith, c.symbols-symbols.ensures))
          (λ d h. omega (arith, c.if-not-are_symbols.ensures d h, c.symbols-symbols.ensures)) c.if-not-are_blank.ensures,
    )
