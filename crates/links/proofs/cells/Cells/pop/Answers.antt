use Rattle.std.proofs.Common.{◌≡◌, ◌<◌, false, [], ◌∷◌, ◌++◌, length, get_or, sym, ap, ◌∙◌, subst, arith, rules, length-set}
use Rattle.link_growth.specs.Entries.{cell, Once}
use Rattle.links.specs.Listing.{listed}
use Rattle.links.specs.Sets.{cells_of}
use Rattle.links.proofs.Lists.{mark_less, row_kept, cell_is, once_distinct, once_last}
use Rattle.links.proofs.Members.{each_once}
use Rattle.links.proofs.cells.Cells.pop.Goals as goal

pub invariant_of-self-2 : goal.invariant_of-self-2
invariant_of-self-2 c =
    let s = c.args.self.now in
    let p = c.from.result in
    let q = c.from-2.result in
    let x = cell q p in
    let inside : p < 256 = search rules in
    let place : p < length s.marks = omega (arith, s.places) in
    let state : q < length (get_or s.marks p []) = omega (arith, s.states p inside) in
    let split : cells_of s ≡ c.pop.new.self.items ++ x ∷ [] = c.in_ok-c.ensures.items ∙ ap (λ v. c.pop.new.self.items ++ v ∷ []) (sym (cell_is c.from-2.ensures c.from.ensures)) in
    let last = once_last c.pop.new.self.items x (subst Once split (each_once s)) in
    record {
      places = length-set s.marks p _ ∙ s.places;
      states = λ i lt. row_kept s.marks x false place state i ∙ s.states i lt;
      marked = mark_less s.marks c.pop.new.self.items x place state last.1 (λ d. s.marked d ∙ ap (listed d) split);
      once = once_distinct last.0;
    }
