use Rattle.histories.proofs.Remembering.{kept_words_begin}
use Rattle.histories.proofs.kept_words_begin_a_sentence.Goals as goal

pub returns : goal.returns
returns c = kept_words_begin
