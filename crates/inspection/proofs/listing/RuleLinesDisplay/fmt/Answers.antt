use Rattle.std.proofs.Common.{◌≡◌, true, ltb, ◌++◌, Ok, codes, refl, arith, lt-ltb}
use Rattle.parsing.specs.Grammar.{rule_count}
use Rattle.grammar.specs.Meaning.{sheet}
use Rattle.inspection.specs.Listings.{rule_line}
use Rattle.inspection.proofs.Printing.{prints_if}
use Rattle.inspection.proofs.Joining.{each_none, each_more}
use Rattle.inspection.proofs.listing.RuleLinesDisplay.fmt.Goals as goal

pub loop-rule-init : goal.loop-rule-init
loop-rule-init g c = each_none g.W.Write.write_str_gives (λ k. rule_line (sheet c.args.self.now.grammar.now) k ++ codes "\n") 0 c.args.f.now

pub loop-rule-preserved : goal.loop-rule-preserved
loop-rule-preserved g c = λ plain.
    let s = sheet c.args.self.now.grammar.now in
    let r = c.loop-rule.rule in
    let here : ltb r (rule_count s.grammar) ≡ true = lt-ltb _ _ (omega arith) in
    let before = c.loop-rule.invariant plain in
    each_more g.W.Write.write_str_gives (λ k. rule_line s k ++ codes "\n") 0 c.args.f.now c.loop-rule.f c.writeln.new.self r (omega arith) before
    (prints_if g.W.Write.write_str_gives c.loop-rule.f c.writeln.new.self (Ok tt) (ltb r (rule_count s.grammar)) (rule_line s r) (codes "\n") here
    c.in_ok-writeln.ensures.writes before.plain refl)
