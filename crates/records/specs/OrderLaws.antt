-- The laws that tie the orders of the records to `==`.
--   node_ties          `==` holds of the nodes that the order does not tell apart
--   same_alternative   alternatives of which `==` holds are the same
--   alternative_ties   `==` holds of the alternatives that the order does not tell apart
use Rattle.std.specs.Prelude.{◌≡◌, true, ◌&&◌, ◌==◌, nat_eq}
use Rattle.std.proofs.Common.{refl, ap, ◌∙◌, subst, eqb-true}
use Rattle.std.specs.Ordering.{is_eq, eq_by_cmp, nat_cmp, ordering_then}
use Rattle.std.specs.Cmp.{both_ways, both_tied, unsigned_ties, tied_itself, first_so, second_so}
use Rattle.std.specs.Cmp.Derive.{both_true}
use Rattle.std.specs.Cmp.Lexicographic.{slice_cmp, lists_ties, pointwise, bytes_decides}
use Rattle.records.specs.declared.alternative.Alternative.{Alternative}
use Rattle.records.specs.Cuts.{first, last}
use Rattle.records.specs.Orders.{node_cmp, alternative_cmp, by_alternative}
use Rattle.records.specs.declared.node.Node.{Node}

pub node_ties : (x y : Node) → (x.from == y.from && (x.to == y.to && x.symbol == y.symbol)) ≡ eq_by_cmp node_cmp x y
node_ties x y =
    let to = x.to == y.to in
    let symbol = x.symbol == y.symbol in
    both_tied (x.from == y.from) (to && symbol) (nat_cmp x.from y.from) (ordering_then (nat_cmp x.to y.to) (nat_cmp x.symbol y.symbol))
    (unsigned_ties x.from y.from)
    (both_tied to symbol (nat_cmp x.to y.to) (nat_cmp x.symbol y.symbol) (unsigned_ties x.to y.to) (unsigned_ties x.symbol y.symbol))

pub same_alternative : (x y : Alternative) → x.rule == y.rule ≡ true → pointwise nat_eq x.cuts y.cuts ≡ true → x ≡ y
same_alternative x y h k =
    let p = eqb-true x.rule y.rule h in
    let q = (bytes_decides x.cuts y.cuts).0 k in
    λ i. record { rule = p i; cuts = q i }

pub alternative_ties : (x y : Alternative) → (x.rule == y.rule && pointwise nat_eq x.cuts y.cuts) ≡ eq_by_cmp alternative_cmp x y
alternative_ties x y =
    let rules = x.rule == y.rule in
    let cuts = pointwise nat_eq x.cuts y.cuts in
    let front = ordering_then (nat_cmp (first x) (first y)) (nat_cmp (last x) (last y)) in
    let parts : (is_eq front && rules && cuts) ≡ eq_by_cmp alternative_cmp x y =
    both_tied (is_eq front && rules) cuts (ordering_then front (nat_cmp x.rule y.rule)) (slice_cmp nat_cmp x.cuts y.cuts)
    (both_tied (is_eq front) rules front (nat_cmp x.rule y.rule) refl (unsigned_ties x.rule y.rule))
    (lists_ties nat_cmp unsigned_ties x.cuts y.cuts) in
    both_ways (rules && cuts) (eq_by_cmp alternative_cmp x y)
    (λ h. subst (λ z. eq_by_cmp alternative_cmp x z ≡ true) (same_alternative x y (first_so rules cuts h) (second_so rules cuts h)) (ap is_eq (tied_itself by_alternative x)))
    (λ h. let k = parts ∙ h in both_true (second_so (is_eq front) rules (first_so (is_eq front && rules) cuts k)) (second_so (is_eq front && rules) cuts k))
