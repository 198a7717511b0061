use Rattle.replay.proofs.Following.{begun}
use Rattle.replay.proofs.law.kept_words_begin_a_sentence.Goals as goal

pub returns : goal.returns
returns g c = begun g.S.StateSource.meaning g.met.S.StateSource.lawful
