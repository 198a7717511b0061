use Rattle.std.proofs.Common.{◌-◌, ◌<◌, length, take, drop, sym, subst, arith}
use Rattle.grammar.specs.Meaning.{sheet}
use Rattle.words.specs.Feeds.{Handed}
use Rattle.words.specs.Meanings.{text_feed_coming}
use Rattle.words.proofs.Running.{runs_first}
use Rattle.words.proofs.Texting.{err_is, text_word, text_fault}
use Rattle.words.proofs.texts.TextFeedWordFeed.next_word.Goals as goal

pub returns-in_err-word : goal.returns-in_err-word
returns-in_err-word c =
    let f = c.args.self.now in
    let xs = f.text.now in
    let i = c.run_start-from.result in
    let j = c.run_end-to.result in
    let h : i < length xs = omega (arith, c.run_start-from.ensures.within) in
    let b = c.run_start-from.ensures.begins h in
    let e = err_is _ _ c.from_residual.ensures in
    subst (λ r. Handed (text_feed_coming f) r (text_feed_coming (record { grammar = f.grammar; text = f.text; place = i }))) (sym e)
    (text_fault (sheet f.grammar.now) xs f.place i c.run_start-from.ensures.same j (record { from = i; bytes = take (j - i) (drop i xs) }) (runs_first xs i h b.0 b.1 j c.run_end-to.ensures.value) _ (sym c.in_err-word.ensures))

pub returns : goal.returns
returns c =
    let f = c.args.self.now in
    let xs = f.text.now in
    let i = c.run_start-from.result in
    let j = c.run_end-to.result in
    let h : i < length xs = omega (arith, c.run_start-from.ensures.within) in
    let b = c.run_start-from.ensures.begins h in
    text_word (sheet f.grammar.now) xs f.place i c.run_start-from.ensures.same j (record { from = i; bytes = take (j - i) (drop i xs) }) (runs_first xs i h b.0 b.1 j c.run_end-to.ensures.value) _ (sym c.in_ok-word.ensures)
