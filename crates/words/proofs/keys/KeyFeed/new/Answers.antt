use Rattle.std.proofs.Common.{◌<◌, length, sym, subst, arith}
use Rattle.std.proofs.ByRecursion.{All-from_get_or}
use Rattle.grammar.specs.Meaning.{meaning}
use Rattle.grammar.proofs.Held.{held}
use Rattle.words.specs.Keys.{key_coming}
use Rattle.words.specs.Places.{Orderly}
use Rattle.words.specs.Pressed.{Recorded}
use Rattle.words.proofs.KeyOrder.{keys_orderly}
use Rattle.words.proofs.Keying.{recorded}
use Rattle.words.proofs.keys.KeyFeed.new.Goals as goal

pub returns-clause-recorded : goal.returns-clause-recorded
returns-clause-recorded c =
    let n = (meaning c.args.grammar.now).terminals in
    let xs = c.args.keys.now in
    subst (λ T. Recorded n xs (key_coming T 0 xs)) (sym c.terminals.ensures) (recorded n xs)

pub returns-clause-orderly : goal.returns-clause-orderly
returns-clause-orderly c =
    let n = (meaning c.args.grammar.now).terminals in
    let xs = c.args.keys.now in
    subst (λ T. Orderly n (length xs) (key_coming T 0 xs)) (sym c.terminals.ensures)
    (keys_orderly n xs (held c.args.grammar.now).kept.some_terminals (All-from_get_or (λ b. b < 256) xs 0 (λ i _. omega (arith, c.type_inv.keys i))))
