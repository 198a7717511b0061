use Rattle.std.proofs.Common.{Ok, refl, subst}
use Rattle.words.specs.Feeds.{Handed}
use Rattle.word_listing.proofs.Going.{so_far_start, so_far_word, all_end, all_fault}
use Rattle.word_listing.proofs.listing.list_words.Goals as goal

pub loop-word-init : goal.loop-word-init
loop-word-init g c = so_far_start g.W.Write.write_str_gives c.args.f.now (g.F.WordFeed.coming c.args.feed.now)

pub loop-word-preserved : goal.loop-word-preserved
loop-word-preserved g c = λ plain.
    let coming = g.F.WordFeed.coming in
    let so = c.loop-word.invariant plain in
    let told = subst (λ x. Handed (coming c.loop-word.feed) (Ok x) (coming c.next_word.new.self)) c.in-Ok-Some.field-0-is c.in-Ok-Some.ensures in
    so_far_word g.W.Write.write_str_gives c.args.f.now c.loop-word.f c.write.new.self (coming c.loop-word.feed) (coming c.next_word.new.self) (coming c.args.feed.now)
    so c.in-Ok-Some.word told (c.in_ok-write-in-Ok-Some.ensures.writes so.wrote.plain refl)

pub returns-in-Ok-None : goal.returns-in-Ok-None
returns-in-Ok-None g c = λ plain ok.
    let coming = g.F.WordFeed.coming in
    let so = c.loop-word.invariant plain in
    let told = subst (λ x. Handed (coming c.loop-word.feed) (Ok x) (coming c.next_word.new.self)) c.in-Ok-None.field-0-is c.in-Ok-None.ensures in
    all_end g.W.Write.write_str_gives c.args.f.now c.loop-word.f c.write-in-Ok-None.new.self (coming c.loop-word.feed) (coming c.next_word.new.self) (coming c.args.feed.now)
    so told (c.write-in-Ok-None.ensures.writes so.wrote.plain ok)

pub returns-in-Err : goal.returns-in-Err
returns-in-Err g c = λ plain ok.
    let coming = g.F.WordFeed.coming in
    let so = c.loop-word.invariant plain in
    all_fault g.W.Write.write_str_gives c.args.f.now c.loop-word.f c.write-in-Err.new.self (coming c.loop-word.feed) (coming c.next_word.new.self) (coming c.args.feed.now)
    so c.in-Err.fault c.in-Err.ensures (c.write-in-Err.ensures.writes so.wrote.plain ok)
