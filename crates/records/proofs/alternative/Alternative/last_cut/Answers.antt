use Rattle.std.proofs.Common.{rules, ap, ◌∙◌, get_or, ◌≡◌, None, take}
use Rattle.std.specs.List.{last_or, prefix_len}
use Rattle.std.specs.Option.{unwrap_or}
use Rattle.std.proofs.lemmas.Iterator.{YieldsList-from_slice}
use Rattle.std.proofs.lemmas.Iterator.Consumers.{YieldsList-from_copied}
use Rattle.std.proofs.lemmas.Iterator.Search.{YieldsList-from_take_while}
use Rattle.records.proofs.Uses.{is_used, last_from_yields, last_of_used}
use Rattle.records.proofs.alternative.Alternative.last_cut.Goals as goal

pub returns : goal.returns
returns c =
    let cs = c.args.self.now.cuts in
    let e : c.last.result ≡ last_or None (take (prefix_len is_used cs) cs) =
    last_from_yields _ c.last.result (take (prefix_len is_used cs) cs) c.last.ensures.ran
    (YieldsList-from_take_while _ is_used (YieldsList-from_copied (YieldsList-from_slice cs (cc))) (search rules) (search rules) (λ x b q h. search rules)) in
    c.unwrap_or.ensures ∙ ap (λ r. unwrap_or r (get_or cs 0 0)) e ∙ last_of_used (get_or cs 0 0) cs
