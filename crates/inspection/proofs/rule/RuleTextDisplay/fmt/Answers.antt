use Rattle.std.proofs.Common.{ltb, ap, ◌∙◌, ltb-true}
use Rattle.std.proofs.Output.{has_written_of_eq}
use Rattle.parsing.specs.Grammar.{rule_count}
use Rattle.grammar.specs.Meaning.{sheet}
use Rattle.inspection.specs.Names.{symbol_name, called}
use Rattle.inspection.specs.Rules.{rule_text}
use Rattle.inspection.proofs.Printing.{shows_if}
use Rattle.inspection.proofs.Ruling.{rule_is, rule_is_nothing}
use Rattle.inspection.proofs.rule.RuleTextDisplay.fmt.Goals as goal

pub returns-then-length-eq0-clause-writes : goal.returns-then-length-eq0-clause-writes
returns-then-length-eq0-clause-writes g c =
    let s = sheet c.args.self.now.grammar.now in
    let r = c.args.self.now.rule in
    shows_if g.W.Write.write_str_gives c.args.f.now _ c.write.result (ltb r (rule_count s.grammar)) (rule_text s r)
    (λ here plain ok.
    has_written_of_eq g.W.Write.write_str_gives _ _ _ _
    (rule_is_nothing s r (ltb-true _ _ here) (called c.of-left.result) c.from-length.result (c.of-left.ensures ∙ ap (symbol_name s) c.left.ensures)
    (c.from-length.ensures ∙ c.length.ensures) c.if-length-eq0.true)
    (c.write.ensures.writes plain ok))

pub returns-clause-writes : goal.returns-clause-writes
returns-clause-writes g c =
    let s = sheet c.args.self.now.grammar.now in
    let r = c.args.self.now.rule in
    shows_if g.W.Write.write_str_gives c.args.f.now _ c.write-2.result (ltb r (rule_count s.grammar)) (rule_text s r)
    (λ here plain ok.
    has_written_of_eq g.W.Write.write_str_gives _ _ _ _
    (rule_is s r (ltb-true _ _ here) (called c.of-left.result) c.from-length.result (c.of-left.ensures ∙ ap (symbol_name s) c.left.ensures)
    (c.from-length.ensures ∙ c.length.ensures) c.if-length-eq0.false)
    (c.write-2.ensures.writes plain ok))
