use Rattle.parsing.proofs.Theorems.{stability}
use Rattle.parsing.proofs.links_keep_to_their_words.Goals as goal

pub returns : goal.returns
returns c = stability
