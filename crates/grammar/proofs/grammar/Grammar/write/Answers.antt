use Rattle.std.proofs.Common.{ℕ, ◌-◌, length, sym, ap, ◌∙◌, subst, arith}
use borrow.Rule.Slice.PartMut.{put_mid}
use Rattle.grammar_format.specs.Sheets.{sheet_bytes, rules_bytes, spellings_bytes, rules_end}
use Rattle.grammar_format.proofs.Decoding.{length_sheet_bytes}
use Rattle.grammar.specs.Meaning.{sheet}
use Rattle.grammar.specs.Writing.{Put, Writes}
use Rattle.grammar.proofs.Putting.{put_behind, put_size, rest_size}
use Rattle.grammar.proofs.Pieces.{rules_size, size_is, written}
use Rattle.grammar.proofs.grammar.Grammar.write.Goals as goal

pub put-requires : goal.put-requires
put-requires c = let e = ap length c.head_bytes.ensures in omega (arith, size_is c.args.self.now, c.size-size.ensures.value)

pub put_rules-requires : goal.put_rules-requires
put_rules-requires c =
    let g = c.args.self.now in
    omega (arith, size_is g, rules_size g, rest_size c.put.new.room 12)

pub slice_bounds-put_spellings-count : goal.slice_bounds-put_spellings-count
slice_bounds-put_spellings-count c =
    let e = size_is c.args.self.now in
    omega (arith, put_size c.put.new.room c.put_rules.new.room 12 (omega arith) c.put_rules.auto.room)

pub slice_bounds-put_spellings-start : goal.slice_bounds-put_spellings-start
slice_bounds-put_spellings-start c =
    let e = size_is c.args.self.now in
    omega (arith, put_size c.put.new.room c.put_rules.new.room 12 (omega arith) c.put_rules.auto.room)

pub put_spellings-requires : goal.put_spellings-requires
put_spellings-requires c =
    let g = c.args.self.now in
    let one = c.put.new.room in
    let two = put_mid 12 (length one - 12) one c.put_rules.new.room in
    let e = size_is g in
    omega (
      arith,
      length_sheet_bytes (sheet g),
      rules_size g,
      rest_size two c.from.result,
      put_size one c.put_rules.new.room 12 (omega arith) c.put_rules.auto.room,
    )

pub returns : goal.returns
returns c =
    let g = c.args.self.now in
    let old = c.args.room.now in
    let one = c.put.new.room in
    let two = put_mid 12 (length one - 12) one c.put_rules.new.room in
    let new = put_mid c.from.result (length two - c.from.result) two c.put_spellings.new.room in
    subst (Writes (sheet_bytes (sheet g)) old new) (sym c.from-need.ensures)
    (written g c.size-size.ensures.value (c.from-terminals.ensures ∙ c.terminals.ensures) c.from-nonterminals.ensures (c.from-rules.ensures ∙ c.rules.ensures)
    (c.rules_end-end.ensures ∙ ap rules_end c.rules-2.ensures)
    old one two new c.head_bytes.result (omega arith)
    c.head_bytes.ensures c.put.ensures
    (put_behind one c.put_rules.new.room (rules_bytes (sheet g)) 12 c.put_rules.ensures)
    (subst (λ (k : ℕ). Put two k (spellings_bytes (sheet g)) new) c.from.ensures
    (put_behind two c.put_spellings.new.room (spellings_bytes (sheet g)) c.from.result c.put_spellings.ensures)))
