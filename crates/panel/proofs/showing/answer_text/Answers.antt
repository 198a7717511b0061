use Rattle.std.proofs.Common.{subst}
use Rattle.grammar.specs.Meaning.{sheet, meaning}
use Rattle.panel.specs.Answers.{outcome}
use Rattle.panel.specs.Outcomes.{ByTable, read}
use Rattle.panel.proofs.showing.answer_text.Goals as goal

pub returns : goal.returns
returns c =
    let (short, reads) = c.in_ok-grammar.ensures in
    let g = c.in_ok-grammar.grammar in
    read (sheet g) short reads.kept reads.same
    (subst (λ x. ByTable (meaning g) c.args.table_sheet.now x (outcome c.answer_by_table.result)) c.new-feed.ensures.coming c.answer_by_table.ensures)
