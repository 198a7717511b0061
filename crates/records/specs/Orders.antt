-- The orders of the records.
--   node_cmp, by_node                 nodes go by from, then to, then symbol
--   alternative_cmp, by_alternative   alternatives go by the first cut, then the last that is used, then the rule, then all cuts
use Rattle.std.specs.declared.cmp.Ordering.{Ordering}
use Rattle.std.specs.Ordering.{nat_cmp, on, then_cmp}
use Rattle.std.specs.Cmp.Lexicographic.{slice_cmp, lists_total}
use Rattle.std.specs.Cmp.{IsTotalOrder, nat_cmp_total, on_total, then_total}
use Rattle.records.specs.declared.node.Node.{Node}
use Rattle.records.specs.declared.alternative.Alternative.{Alternative}
use Rattle.records.specs.Cuts.{first, last}

abbrev pub node_cmp : Node → Node → Ordering
node_cmp = then_cmp (on (λ n. n.from) nat_cmp) (then_cmp (on (λ n. n.to) nat_cmp) (on (λ n. n.symbol) nat_cmp))

abbrev pub by_node : IsTotalOrder node_cmp
by_node = then_total (on_total (λ n. n.from) nat_cmp_total) (then_total (on_total (λ n. n.to) nat_cmp_total) (on_total (λ n. n.symbol) nat_cmp_total))

abbrev pub alternative_cmp : Alternative → Alternative → Ordering
alternative_cmp = then_cmp (then_cmp (then_cmp (on first nat_cmp) (on last nat_cmp)) (on (λ s. s.rule) nat_cmp)) (on (λ s. s.cuts) (slice_cmp nat_cmp))

abbrev pub by_alternative : IsTotalOrder alternative_cmp
by_alternative =
    then_total (then_total (then_total (on_total first nat_cmp_total) (on_total last nat_cmp_total)) (on_total (λ s. s.rule) nat_cmp_total))
    (on_total (λ s. s.cuts) (lists_total nat_cmp_total))
