use Rattle.std.proofs.Common.{◌≡◌, true, false, rules, tests}
use Rattle.std.proofs.lemmas.Iterator.{first_from_Range}
use Rattle.grammar.proofs.Held.{held}
use Rattle.grammar.specs.Meaning.{sheet}
use Rattle.words.proofs.Spellings.{spells, first_spelled}
use Rattle.words.proofs.spelled.terminal_of.Goals as goal

pub returns : goal.returns
returns c =
    let g = c.args.grammar.now in
    let w = c.args.bytes.now in
    first_spelled (sheet g) w c.terminals.result c.terminals.ensures (held g).kept.one_each c.find.result
    (first_from_Range _ _ _ c.find.result (λ t. spells (sheet g) w t ≡ true) (λ t. spells (sheet g) w t ≡ false) c.find.ensures.ran (λ x q k. search (rules, tests)) (λ x q k. search (rules, tests)))
