use Rattle.link_growth.proofs.Exacts.{counting}
use Rattle.link_growth.proofs.links_have_one_number.Goals as goal

pub returns : goal.returns
returns c = counting
