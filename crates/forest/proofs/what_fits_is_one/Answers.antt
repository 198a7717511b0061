use Rattle.forest.proofs.Answering.{fits_are_one}
use Rattle.forest.proofs.what_fits_is_one.Goals as goal

pub returns : goal.returns
returns c = fits_are_one
