use Rattle.links.proofs.Words.{wordwise}
use Rattle.links.proofs.wordwise.links_are_those_of_the_words.Goals as goal

pub returns : goal.returns
returns c = wordwise
