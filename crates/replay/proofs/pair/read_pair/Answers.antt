use Rattle.std.proofs.Common.{sym}
use Rattle.std.proofs.lemmas.List.{length-take-le}
use Rattle.replay.proofs.Pairing.{pair_read}
use Rattle.replay.proofs.pair.read_pair.Goals as goal

pub returns-clause-reads : goal.returns-clause-reads
returns-clause-reads g c =
    pair_read g.S.StateSource.meaning c.histories_are_right.ensures _ _ _ _ _ _ _ c.new-reading.result c.open-opened.new.self c.new-reading.ensures c.open-opened.ensures
    c.read_past-told.new.reading c.read_past-told.ensures.reads
    (sym (length-take-le c.read_past-told.result.1 c.read_past-told.new.refused c.read_past-told.ensures.within)) c.words-words.ensures c.count-links.ensures c.link-linked.ensures
    c.read_whole-whole.new.reading c.read_whole-whole.ensures.leads c.read_whole-whole.ensures.back c.read_whole-whole.ensures.undone c.judge-judged.ensures c.gather-gathered.ensures
