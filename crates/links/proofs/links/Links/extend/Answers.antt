use Rattle.std.proofs.Common.{Some}
use Rattle.std.proofs.lemmas.Result.{err_from_is_err_and}
use Rattle.links.proofs.Contents.{both}
use Rattle.links.specs.Tables.{Along}
use Rattle.links.proofs.Rounds.{along_more, along_overfull}
use Rattle.links.proofs.Keeps.{all_stepped, extended, extended_stepped, extended_overfull}
use Rattle.links.proofs.links.Links.extend.Goals as goal

pub returns-in_err-shift_links : goal.returns-in_err-shift_links
returns-in_err-shift_links g c =
    let a = c.shift_first.ensures.0 in
    let e = err_from_is_err_and c.from_residual-in_err-shift_links.result c.from_residual-in_err-shift_links.ensures.1 in
    (along_more a c.shift_links.ensures.0, rw e.1 (along_overfull a c.in_err-shift_links.ensures.1))

pub returns : goal.returns
returns g c =
    let src = g.S.StateSource.meaning c.args.word.now.symbol.over.now.source.now in
    let x = c.args.word.now.symbol.x in
    let n = c.args.word.now.symbol.over.now.limit in
    let t = c.args.self.now.table in
    let u = c.shift_links.new.self in
    let v = c.close.new.self.table in
    let a = c.shift_first.ensures.0 in
    let b = c.shift_links.ensures.0 in
    let d = c.close.ensures.0 in
    let k : Along src (Some x) t u n = along_more a b in
    let l : Along src (Some x) t v n = extended k d in (
      l,
      both c.close.result c.close.ensures.1
          (extended_stepped k d (all_stepped c.requires a b c.in_ok-shift_first.ensures.1 c.in_ok-shift_links.ensures.1))
          (extended_overfull k),
    )
