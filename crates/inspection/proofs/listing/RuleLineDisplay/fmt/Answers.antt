use Rattle.std.proofs.Common.{ltb, ◌++◌, codes, decimal, ap, ◌∙◌, append_assoc, arith}
use Rattle.std.specs.Fmt.{styled_decimal}
use Rattle.parsing.specs.Grammar.{rule_count}
use Rattle.grammar.specs.Meaning.{sheet}
use Rattle.inspection.specs.Listings.{rule_line, indent}
use Rattle.inspection.specs.Rules.{rule_text}
use Rattle.inspection.proofs.Indents.{indented}
use Rattle.inspection.proofs.Printing.{shows_behind}
use Rattle.inspection.proofs.listing.RuleLineDisplay.fmt.Goals as goal

pub returns-clause-writes : goal.returns-clause-writes
returns-clause-writes g c =
    let s = sheet c.args.self.now.grammar.now in
    let n = c.args.self.now.rule in
    shows_behind g.W.Write.write_str_gives _ _ _ (ltb n (rule_count s.grammar)) (styled_decimal c.laid_out.result n) (codes "  ") (rule_text s n) (rule_line s n)
    (ap (λ o. styled_decimal o n ++ (codes "  " ++ rule_text s n)) c.laid_out.ensures
    ∙ ap (λ x. x ++ (codes "  " ++ rule_text s n)) (indented n (omega arith))
    ∙ append_assoc (indent n) (decimal n) (codes "  " ++ rule_text s n))
    c.write.ensures.writes
