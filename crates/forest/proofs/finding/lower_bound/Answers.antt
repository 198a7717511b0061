use Rattle.std.proofs.Common.{rules}
use Rattle.std.proofs.lemmas.List.Sorted.{IsPartitionPoint-from_clause}
use Rattle.forest.proofs.Ordering.{comes_before, parted, bound_at}
use Rattle.forest.proofs.finding.lower_bound.Goals as goal

pub returns : goal.returns
returns c =
    let us = c.args.nodes.now in
    bound_at us c.args.i c.args.j c.partition_point.result c.partition_point.ensures.bound
    (λ up. IsPartitionPoint-from_clause (comes_before c.args.i c.args.j) us c.partition_point.result c.partition_point.ensures.partitioned
    (parted us c.args.i c.args.j c.partition_point.result up) (λ a r f' h. search rules))
