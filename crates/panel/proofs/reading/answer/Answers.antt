use Rattle.std.proofs.Common.{rules, ◌≡◌, Err}
use Rattle.reader.specs.declared.fault.ThroughFault.TheVariants.{Reading as Itself}
use Rattle.panel.specs.declared.fault.Fault.TheVariants.{Reading}
use Rattle.panel.proofs.Answering.{open_fault, through_fault, no_outcome, yes_outcome, gather_fault}
use Rattle.panel.proofs.reading.answer.Goals as goal

pub returns-in_err-open : goal.returns-in_err-open
returns-in_err-open g c =
    let why : c.from_residual.result ≡ Err (Reading (Itself c.in_err-open.field-0.0)) = search rules in
    rw why (open_fault g.S.StateSource.meaning c.args.source (g.met.S.StateSource.lawful c.args.source) (g.F.WordFeed.coming c.args.feed.now)
    c.new-reading.result c.new-reading.ensures c.open.new.self c.in_err-open.field-0.0 c.in_err-open.ensures)

pub returns-in_err-sentence : goal.returns-in_err-sentence
returns-in_err-sentence g c =
    let why : c.from_residual-in_err-sentence.result ≡ Err (Reading c.in_err-sentence.field-0.0) = search rules in
    rw why (through_fault g.S.StateSource.meaning c.args.source (g.met.S.StateSource.lawful c.args.source) (g.F.WordFeed.coming c.args.feed.now)
    c.new-reading.result c.new-reading.ensures c.open.new.self c.in_ok-open.ensures (g.F.WordFeed.coming c.read_through.new.feed) c.read_through.new.self
    c.in_err-sentence.field-0.0 c.in_err-sentence.ensures)

pub returns-then-not-sentence : goal.returns-then-not-sentence
returns-then-not-sentence g c =
    no_outcome g.S.StateSource.meaning c.args.source (g.met.S.StateSource.lawful c.args.source) (g.F.WordFeed.coming c.args.feed.now)
    c.new-reading.result c.new-reading.ensures c.open.new.self c.in_ok-open.ensures (g.F.WordFeed.coming c.read_through.new.feed) c.read_through.new.self
    c.in_ok-sentence.sentence c.in_ok-sentence.ensures c.words-words.result c.count-links.result c.if-not-sentence.true c.words-words.ensures c.count-links.ensures

pub returns-in_err-forest : goal.returns-in_err-forest
returns-in_err-forest g c =
    let why : c.from_residual-in_err-forest.result ≡ Err c.in_err-forest.field-0.0 = search rules in
    rw why (gather_fault g.S.StateSource.meaning c.args.source (g.met.S.StateSource.lawful c.args.source) (g.F.WordFeed.coming c.args.feed.now)
    c.new-reading.result c.new-reading.ensures c.open.new.self c.in_ok-open.ensures (g.F.WordFeed.coming c.read_through.new.feed) c.read_through.new.self
    c.in_ok-sentence.sentence c.in_ok-sentence.ensures c.if-not-sentence.false c.in_err-forest.field-0.0 c.in_err-forest.ensures)

pub returns : goal.returns
returns g c =
    yes_outcome g.S.StateSource.meaning c.args.source (g.met.S.StateSource.lawful c.args.source) (g.F.WordFeed.coming c.args.feed.now)
    c.new-reading.result c.new-reading.ensures c.open.new.self c.in_ok-open.ensures (g.F.WordFeed.coming c.read_through.new.feed) c.read_through.new.self
    c.in_ok-sentence.sentence c.in_ok-sentence.ensures c.if-not-sentence.false c.words-words.result c.count-links.result _ c.words-words.ensures c.count-links.ensures c.in_ok-forest.ensures
