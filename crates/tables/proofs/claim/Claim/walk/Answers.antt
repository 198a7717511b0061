use Rattle.std.proofs.Common.{◌≡◌, arith}
use Rattle.parsing.specs.Grammar.{rule_count}
use Rattle.grammar.specs.Meaning.{meaning}
use Rattle.rows.specs.Rows.{items}
use Rattle.table_format.proofs.Turns.{at_turn}
use Rattle.tables.specs.Lists.{listed, known_of}
use Rattle.tables.proofs.Answering.{begins, room_for, few_known}
use Rattle.tables.proofs.claim.Claim.walk.Goals as goal

pub loop-place-init : goal.loop-place-init
loop-place-init c =
    begins (meaning c.args.self.now.grammar.now) (listed c.begin-known.result) (items c.first.result) c.begin-known.ensures c.first.ensures

pub push-requires : goal.push-requires
push-requires c =
    room_for c.args.self.now.formed (listed c.loop-symbol.known) (known_of c.in-Some.found) (rw c.in-Some.is at c.in-Ok.ensures.tries)

pub loop-place-smaller : goal.loop-place-smaller
loop-place-smaller c = omega (arith, few_known c.args.self.now.formed c.loop-symbol.invariant.0, c.loop-symbol.invariant.1)

pub loop-place-preserved : goal.loop-place-preserved
loop-place-preserved c =
    let f = c.args.self.now.formed in
    let e : c.loop-rule.rule ≡ rule_count (meaning c.args.self.now.grammar.now) = omega (arith, f.told.rules_are, f.form.same_rules) in
    at_turn c.loop-rule.invariant e c.loop-symbol.invariant.1
