use Rattle.std.proofs.Common.{false, [], length, replicate, sym, refl, ap, ◌∙◌}
use lib.ListN.{length-replicate}
use Rattle.std.proofs.lemmas.List.{get_or-replicate}
use Rattle.links.specs.Listing.{listed, distinct}
use Rattle.links.proofs.Lists.{no_mark}
use Rattle.links.proofs.cells.Cells.new.Goals as goal

pub invariant_of-result : goal.invariant_of-result
unfolding listed distinct
invariant_of-result c = record {
  places = refl;
  states = λ i lt. ap length (get_or-replicate 256 i (replicate 256 false) [] lt) ∙ length-replicate 256 false;
  marked = λ d. no_mark 256 256 d.place d.state ∙ ap (listed d) (sym c.new.ensures);
  once = ap distinct c.new.ensures;
}
