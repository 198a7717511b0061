use Rattle.std.proofs.Common.{◌≡◌, ◌+◌, ◌*◌, ap, ◌∙◌, rules}
use Rattle.words.proofs.Pressing.{key_amount, key_word}
use Rattle.words.proofs.presses.KeyFeedWordFeed.next_word.Goals.{in-Amount, in-Key+else-terminal-self}
use Rattle.words.proofs.presses.KeyFeedWordFeed.next_word.Goals as goal

pub returns : goal.returns
returns c =
    let f = c.args.self.now in
    elim c.match-first.branch [
      | in-Amount w ↦
          key_amount f.terminals f.keys.now f.place f.within w.in-Amount.hi w.in-Amount.lo w.in-Amount.ensures c.match-first.word
          (let e : w.from.result ≡ 256 * w.in-Amount.hi + w.in-Amount.lo = search rules in w.word-is ∙ ap (λ n. record { terminal = 0; amount = n; from = f.place; to = f.place + 3 }) e)
      | in-Key+else-terminal-self w ↦ key_word f.terminals f.keys.now f.place f.within w.in-Key.terminal w.in-Key.ensures c.match-first.word w.word-is w.if-terminal-self.false
    ]
