use Rattle.link_growth.proofs.Closing.{one_closure}
use Rattle.link_growth.proofs.links_have_one_closure.Goals as goal

pub returns : goal.returns
returns c = one_closure
