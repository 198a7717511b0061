use Rattle.grammar.proofs.Held.{held}
use Rattle.grammar.specs.Meaning.{sheet}
use Rattle.words.proofs.TextOrder.{text_orderly, text_faithful}
use Rattle.words.proofs.texts.TextFeed.new.Goals as goal

pub returns-clause-orderly : goal.returns-clause-orderly
returns-clause-orderly c =
    let g = c.args.grammar.now in
    text_orderly (sheet g) (held g).kept.some_terminals (held g).kept.one_each c.args.text.now

pub returns-clause-faithful : goal.returns-clause-faithful
returns-clause-faithful c =
    let g = c.args.grammar.now in
    text_faithful (sheet g) (held g).kept.some_terminals (held g).kept.one_each c.args.text.now
