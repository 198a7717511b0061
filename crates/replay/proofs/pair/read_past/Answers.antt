use Rattle.std.proofs.Common.{rules, ◌≡◌, ◌<◌, take, length, Err, refl, subst, arith}
use Rattle.reader.specs.declared.fault.ThroughFault.TheVariants.{Word}
use Rattle.histories.specs.Calls.{read_through, and_feed}
use Rattle.reader.specs.Readings.{Makes}
use Rattle.reader.specs.Replies.{through}
use Rattle.replay.proofs.Pairing.{Passing, passing_none, passing_more, passing_ends, rest_more}
use Rattle.replay.proofs.pair.read_past.Goals as goal

pub loop-i-init : goal.loop-i-init
loop-i-init g c = (passing_none g.S.StateSource.meaning c.args.reading.now (g.F.WordFeed.coming c.args.feed.now), refl)

pub loop-i-preserved : goal.loop-i-preserved
loop-i-preserved g c =
    let m = g.S.StateSource.meaning in
    let coming = g.F.WordFeed.coming in
    let w = c.in-Err-Word.word in
    let is : c.read_through-told.result ≡ Err (Word w) = search rules in
    let room : c.loop-i.i < length c.loop-i.refused = omega arith in
    let makes = subst (λ r. Makes m c.loop-i.reading (read_through (coming c.loop-i.feed)) (and_feed (through r) (coming c.read_through-told.new.feed)) c.read_through-told.new.self) is
    c.read_through-told.ensures in (
      passing_more m c.args.reading.now c.loop-i.reading c.read_through-told.new.self (coming c.args.feed.now) (coming c.loop-i.feed) (coming c.read_through-told.new.feed)
          c.loop-i.refused c.loop-i.i w room c.loop-i.invariant.0 makes,
      rest_more c.loop-i.refused c.args.refused.now c.loop-i.i w c.loop-i.invariant.1,
    )

pub returns-in_default-clause-reads : goal.returns-in_default-clause-reads
returns-in_default-clause-reads g c =
    passing_ends g.S.StateSource.meaning c.args.reading.now c.loop-i.reading c.read_through-told.new.self (g.F.WordFeed.coming c.args.feed.now)
    (g.F.WordFeed.coming c.loop-i.feed) (g.F.WordFeed.coming c.read_through-told.new.feed) (take c.loop-i.i c.loop-i.refused) (through c.read_through-told.result)
    c.loop-i.invariant.0 c.read_through-told.ensures

pub returns-in_default-2-clause-reads : goal.returns-in_default-2-clause-reads
returns-in_default-2-clause-reads g c =
    passing_ends g.S.StateSource.meaning c.args.reading.now c.loop-i.reading c.read_through-told.new.self (g.F.WordFeed.coming c.args.feed.now)
    (g.F.WordFeed.coming c.loop-i.feed) (g.F.WordFeed.coming c.read_through-told.new.feed) (take c.loop-i.i c.loop-i.refused) (through c.read_through-told.result)
    c.loop-i.invariant.0 c.read_through-told.ensures

pub returns-clause-reads : goal.returns-clause-reads
returns-clause-reads g c =
    let m = g.S.StateSource.meaning in
    let coming = g.F.WordFeed.coming in
    let all : c.loop-i.i ≡ length c.loop-i.refused = omega (arith, c.loop-i.auto.i-end, c.loop-i.auto.refused) in
    passing_ends m c.args.reading.now c.loop-i.reading c.read_through.new.self (coming c.args.feed.now) (coming c.loop-i.feed) (coming c.read_through.new.feed)
    (take (length c.loop-i.refused) c.loop-i.refused) (through c.read_through.result)
    (subst (λ k. Passing m c.args.reading.now (coming c.args.feed.now) (take k c.loop-i.refused) c.loop-i.reading (coming c.loop-i.feed)) all c.loop-i.invariant.0)
    c.read_through.ensures
