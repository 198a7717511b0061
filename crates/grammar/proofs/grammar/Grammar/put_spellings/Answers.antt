use Rattle.std.proofs.Common.{ℕ, List, length, sym, ap, ◌∙◌, subst, arith, take_all}
use Rattle.std.specs.List.{flat_map}
use Rattle.std.proofs.lemmas.List.Folds.{length-flat_map-take}
use Rattle.grammar.specs.Holding.{spelling_piece}
use Rattle.grammar.specs.Writing.{Put}
use Rattle.grammar.proofs.Putting.{put_next, put_behind, rest_size, next_size}
use Rattle.grammar.proofs.Pieces.{spellings_are}
use Rattle.grammar.proofs.grammar.Grammar.put_spellings.Goals as goal

pub put_spelling-at-requires : goal.put_spelling-at-requires
put_spelling-at-requires c =
    let ws = c.as_slice-spelling-items.result.now in
    let i = c.loop-spelling.spelling-index in
    let w = c.spelling-item.result in
    let e = ap length (spellings_are c.args.self.now ∙ ap (flat_map spelling_piece) (sym c.as_slice-spelling-items.ensures)) in
    let s = ap (λ y. length (spelling_piece y)) c.spelling-item.is in
    omega (arith, length-flat_map-take spelling_piece ws i w c.loop-spelling-test.true, c.loop-spelling.invariant.1, rest_size c.loop-spelling.room c.loop-spelling.at)

pub loop-spelling-preserved : goal.loop-spelling-preserved
loop-spelling-preserved c =
    let ws = c.as_slice-spelling-items.result.now in
    let i = c.loop-spelling.spelling-index in
    let w = c.spelling-item.result in
    let inv = c.loop-spelling.invariant in
    let s = ap (λ y. length (spelling_piece y)) c.spelling-item.is in (
      put_next spelling_piece ws i w c.args.room.now c.loop-spelling.room _ (spelling_piece w) 0 c.loop-spelling.at
          (omega arith) c.loop-spelling-test.true (omega (arith, inv.1)) (ap spelling_piece c.spelling-item.is) inv.0
          (put_behind c.loop-spelling.room c.put_spelling-at.new.room (spelling_piece w) c.loop-spelling.at c.put_spelling-at.ensures.put),
      omega (arith, next_size spelling_piece ws i w c.loop-spelling-test.true, inv.1, c.put_spelling-at.ensures.size),
    )

pub returns : goal.returns
returns c =
    let ws = c.as_slice-spelling-items.result.now in
    subst (λ (xs : List ℕ). Put c.args.room.now 0 xs c.loop-spelling.room)
    (ap (flat_map spelling_piece) (take_all c.loop-spelling.spelling-index ws (omega arith) ∙ c.as_slice-spelling-items.ensures) ∙ sym (spellings_are c.args.self.now))
    c.loop-spelling.invariant.0
