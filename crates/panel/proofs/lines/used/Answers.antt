use Rattle.std.proofs.Common.{rules, tests}
use Rattle.std.proofs.lemmas.Iterator.{YieldsList-from_slice}
use Rattle.std.proofs.lemmas.Iterator.Search.{position_from_yields_List}
use Rattle.panel.proofs.Printing.{is_blank, used_found}
use Rattle.panel.proofs.lines.used.Goals as goal

pub returns : goal.returns
returns c =
    let cs = c.args.cuts.now in
    used_found cs c.position.result c.unwrap_or-end.result
    (position_from_yields_List is_blank _ _ c.position.result c.position.ensures.ran (YieldsList-from_slice cs (cc)) (λ x b q k. search (rules, tests)))
    c.unwrap_or-end.ensures
