use Rattle.std.proofs.Common.{◌≡◌, ◌<◌, true, [], ◌∷◌, ◌++◌, length, get_or, sym, ap, ◌∙◌, refl, subst, arith, rules, length-set}
use Rattle.link_growth.specs.Entries.{cell}
use Rattle.link_growth.specs.Picking.{Inserted}
use Rattle.link_growth.proofs.Members.{once_push}
use Rattle.links.specs.Listing.{listed, distinct}
use Rattle.links.specs.Sets.{cells_of}
use Rattle.links.proofs.Lists.{mark_more, row_kept, cell_is, once_distinct}
use Rattle.links.proofs.Members.{each_once, inserted_new}
use Rattle.links.proofs.cells.Cells.insert.Goals as goal

pub invariant_of-self : goal.invariant_of-self
invariant_of-self c =
    let s = c.args.self.now in
    let p = c.from.result in
    let q = c.from-2.result in
    let x = cell q p in
    let inside : p < 256 = search rules in
    let place : p < length s.marks = omega (arith, s.places) in
    let state : q < length (get_or s.marks p []) = omega (arith, s.states p inside) in
    let grown : cells_of s ++ x ∷ [] ≡ c.push.new.self.items = ap (λ v. cells_of s ++ v ∷ []) (cell_is c.from-2.ensures c.from.ensures) ∙ sym c.push.ensures.items in
    record {
      places = length-set s.marks p _ ∙ s.places;
      states = λ i lt. row_kept s.marks x true place state i ∙ s.states i lt;
      marked = λ d. mark_more s.marks (cells_of s) x place state s.marked d ∙ ap (listed d) grown;
      once = subst (λ v. distinct v ≡ true) (sym c.push.ensures.items) (once_distinct (once_push (cells_of s) c.args.c (each_once s) (c.if-has.ensures.absent refl)));
    }

pub returns : goal.returns
returns c = subst (λ v. Inserted c.args.c (cells_of c.args.self.now) v) (sym c.push.ensures.items) (inserted_new c.args.c (cells_of c.args.self.now))
