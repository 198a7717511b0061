use Rattle.std.proofs.Common.{rules, ◌≡◌, Ok, Err, subst}
use Rattle.words.specs.Feeds.{Handed}
use Rattle.reader.specs.declared.fault.ReadingFault.TheVariants.{Closed}
use Rattle.reader.specs.declared.fault.ThroughFault.TheVariants.{Feed, Reading, Word}
use Rattle.reader.proofs.Passing.{fewer, through_out, going_start, going_word, word_ends, end_ends, end_judged, fault_ends}
use Rattle.reader.proofs.reading.Reading.read_through.Goals as goal

pub returns-in_err-_limit : goal.returns-in_err-_limit
returns-in_err-_limit g c =
    let why : c.from_residual.result ≡ Err (Reading Closed) = search rules in
    rw why (through_out g.S.StateSource.meaning c.args.self.now (g.F.WordFeed.coming c.args.feed.now) c.in_err-_limit.ensures.1)

pub loop-word-init : goal.loop-word-init
loop-word-init g c = going_start g.S.StateSource.meaning c.args.self.now (g.F.WordFeed.coming c.args.feed.now) c.in_ok-_limit._limit c.in_ok-_limit.ensures

pub returns-in_err-word : goal.returns-in_err-word
returns-in_err-word g c =
    let m = g.S.StateSource.meaning in
    let coming = g.F.WordFeed.coming in
    let why : c.from_residual-in_err-word.result ≡ Err (Feed c.in_err-word.field-0.0) = search rules in
    rw why (fault_ends m c.args.self.now (coming c.args.feed.now) c.loop-word.self (coming c.loop-word.feed) c.loop-word.invariant (coming c.next_word.new.self) c.in_err-word.field-0.0 c.in_err-word.ensures)

pub loop-word-smaller : goal.loop-word-smaller
loop-word-smaller g c =
    let coming = g.F.WordFeed.coming in
    let told = subst (λ x. Handed (coming c.loop-word.feed) (Ok x) (coming c.next_word.new.self)) c.in-Some.is c.in_ok-word.ensures in
    fewer (coming c.loop-word.feed) (coming c.next_word.new.self) c.in-Some.word told

pub loop-word-preserved : goal.loop-word-preserved
loop-word-preserved g c =
    let coming = g.F.WordFeed.coming in
    let told = subst (λ x. Handed (coming c.loop-word.feed) (Ok x) (coming c.next_word.new.self)) c.in-Some.is c.in_ok-word.ensures in
    going_word g.S.StateSource.meaning c.args.self.now (coming c.args.feed.now) c.loop-word.self (coming c.loop-word.feed) c.loop-word.invariant
    c.take_word.new.self (coming c.next_word.new.self) c.in-Some.word told c.in_ok-take_word.ensures

pub returns-in_err-take_word : goal.returns-in_err-take_word
returns-in_err-take_word g c =
    let coming = g.F.WordFeed.coming in
    let told = subst (λ x. Handed (coming c.loop-word.feed) (Ok x) (coming c.next_word.new.self)) c.in-Some.is c.in_ok-word.ensures in
    let why : c.from_residual-in_err-take_word.result ≡ Err (Word c.in_err-take_word.field-0.0) = search rules in
    let (from, to, met) = c.in_err-take_word.ensures in
    rw (why, from, to) (word_ends g.S.StateSource.meaning c.args.self.now (coming c.args.feed.now) c.loop-word.self (coming c.loop-word.feed) c.loop-word.invariant
    c.take_word.new.self (coming c.next_word.new.self) c.in-Some.word _ told met)

pub returns-in_err-judge : goal.returns-in_err-judge
returns-in_err-judge g c =
    absurd (end_judged g.S.StateSource.meaning c.args.self.now (g.F.WordFeed.coming c.args.feed.now) c.loop-word.self (g.F.WordFeed.coming c.loop-word.feed) c.loop-word.invariant _ c.in_err-judge.ensures)

pub returns : goal.returns
returns g c =
    let coming = g.F.WordFeed.coming in
    let told = subst (λ x. Handed (coming c.loop-word.feed) (Ok x) (coming c.next_word.new.self)) c.in_default.is c.in_ok-word.ensures in
    end_ends g.S.StateSource.meaning c.args.self.now (coming c.args.feed.now) c.loop-word.self (coming c.loop-word.feed) c.loop-word.invariant
    (coming c.next_word.new.self) c.in_ok-judge.field-0 told c.in_ok-judge.ensures
