-- Registers of the records, in their orders.
--   Nodes          a register of nodes
--   Alternatives   a register of alternatives
use Rattle.std.specs.Prelude.{◌&&◌, ◌==◌, nat_eq}
use Rattle.std.specs.Ordering.{as_partial_cmp}
use Rattle.std.specs.Cmp.Lexicographic.{pointwise}
use Rattle.register.specs.declared.register.Register.{Register}
use Rattle.records.specs.declared.node.Node.{Node}
use Rattle.records.specs.declared.alternative.Alternative.{Alternative}
use Rattle.records.specs.Orders.{node_cmp, alternative_cmp}

abbrev pub Nodes : Type 0
Nodes =
    Register Node (record { cmp = node_cmp }) (record { eq = λ x y. x.from == y.from && (x.to == y.to && x.symbol == y.symbol) })
    (record { partial_cmp = as_partial_cmp node_cmp })

abbrev pub Alternatives : Type 0
Alternatives =
    Register Alternative (record { cmp = alternative_cmp }) (record { eq = λ x y. x.rule == y.rule && pointwise nat_eq x.cuts y.cuts })
    (record { partial_cmp = as_partial_cmp alternative_cmp })
