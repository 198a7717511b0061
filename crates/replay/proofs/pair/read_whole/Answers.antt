use Rattle.std.proofs.Common.{Bool, Ok, Err, Result, OnErr}
use Rattle.histories.specs.Questions.{word_count}
use Rattle.reader.specs.Readings.{held}
use Rattle.reader.specs.Replies.{through}
use Rattle.reader.specs.declared.fault.ThroughFault.{ThroughFault}
use Rattle.replay.proofs.Pairing.{whole_in, whole_out, undone}
use Rattle.replay.proofs.pair.read_whole.Goals as goal

pub returns-then-is_ok-clause-leads : goal.returns-then-is_ok-clause-leads
returns-then-is_ok-clause-leads g c =
    whole_in g.S.StateSource.meaning c.args.reading.now c.read_through-told.new.self c.words-kept.result (g.F.WordFeed.coming c.args.feed.now)
    (g.F.WordFeed.coming c.read_through-told.new.feed) (through c.read_through-told.result) c.read_through-told.ensures

-- Whatever was told, going back undoes it.
on_err : {P : Type 0} (r : Result Bool ThroughFault) → P → OnErr r P
on_err (Ok b) p = tt
on_err (Err e) p = p

pub returns-clause-undone : goal.returns-clause-undone
returns-clause-undone g c =
    on_err c.read_through-told.result
    (undone g.S.StateSource.meaning c.args.reading.now c.read_through-told.new.self c.back.new.self c.words-kept.result (g.F.WordFeed.coming c.args.feed.now)
    (g.F.WordFeed.coming c.read_through-told.new.feed) (through c.read_through-told.result) _ c.words-kept.ensures c.read_through-told.ensures c.back.ensures)

pub returns-clause-leads : goal.returns-clause-leads
returns-clause-leads g c =
    whole_out g.S.StateSource.meaning c.args.reading.now c.read_through-told.new.self c.back.new.self c.words-kept.result (word_count (held c.args.reading.now))
    (g.F.WordFeed.coming c.args.feed.now) (g.F.WordFeed.coming c.read_through-told.new.feed) (through c.read_through-told.result) c.back.result c.words-kept.ensures
    c.read_through-told.ensures c.back.ensures
