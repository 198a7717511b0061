use Rattle.std.proofs.Common.{◌++◌, codes, decimal, ap, ◌∙◌, append_assoc, arith}
use Rattle.std.proofs.Output.{has_written_of_eq}
use Rattle.std.specs.Fmt.{styled_decimal}
use Rattle.grammar.specs.Meaning.{sheet}
use Rattle.inspection.specs.Names.{called}
use Rattle.inspection.specs.Listings.{symbol_line, indent}
use Rattle.inspection.proofs.Indents.{indented}
use Rattle.inspection.proofs.listing.SymbolLineDisplay.fmt.Goals as goal

pub returns-clause-writes : goal.returns-clause-writes
returns-clause-writes g c = λ plain ok.
    let n = c.args.self.now.symbol in
    let name = called c.of-name.result in
    has_written_of_eq g.W.Write.write_str_gives _ (styled_decimal c.laid_out.result n ++ (codes "  " ++ name)) (symbol_line (sheet c.args.self.now.grammar.now) n) _
    (ap (λ s. styled_decimal s n ++ (codes "  " ++ name)) c.laid_out.ensures
    ∙ ap (λ x. x ++ (codes "  " ++ name)) (indented n (omega arith))
    ∙ append_assoc (indent n) (decimal n) (codes "  " ++ name)
    ∙ ap (λ x. indent n ++ (decimal n ++ (codes "  " ++ x))) c.of-name.ensures)
    (c.write.ensures.writes plain ok)
