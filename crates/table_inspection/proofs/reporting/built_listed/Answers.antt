use Rattle.std.proofs.Common.{◌≡◌, length, codes, MatchResult, sym, ap, ◌∙◌, subst}
use Rattle.grammar.specs.Meaning.{meaning}
use Rattle.tables.specs.Faults.{Refused}
use Rattle.tables.specs.Meaning.{Accepted}
use Rattle.table_inspection.proofs.Listed.{text_of, built_report}
use Rattle.table_inspection.proofs.Writing.{unwraps, not_refused}
use Rattle.table_inspection.proofs.reporting.built_listed.Goals as goal

pub unwrap-table-requires : goal.unwrap-table-requires
unwrap-table-requires c =
    let sheet_of = c.in_ok-sheet.ensures in
    unwraps _ _ c.check.result c.check.ensures (λ f r. not_refused c.args.grammar.now c.args.states.now c.as_slice.result.now f c.requires.over_grammar
    (c.as_slice.ensures.value ∙ sheet_of.0) sheet_of.1 r)

pub returns : goal.returns
returns c =
    let g = c.args.grammar.now in
    let d = c.as_slice.result.now in
    let t = c.unwrap-table.result in
    let a = subst (λ r. MatchResult r (Accepted g d) (Refused (meaning g) d)) c.unwrap-table.ensures c.check.ensures in
    let how = codes "built and written" in
    let size : c.len.result ≡ length d = c.len.ensures ∙ sym c.as_slice.ensures.len in
    built_report g c.args.states.now d t (text_of g t how c.len.result) c.requires.over_grammar c.requires.built
    (c.as_slice.ensures.value ∙ c.in_ok-sheet.ensures.0) a (ap (text_of g t how) size)
