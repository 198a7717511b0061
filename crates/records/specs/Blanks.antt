-- What slots without a record hold.
--   blank_node          a node that is 255 throughout
--   blank_alternative   an alternative that is 255 throughout
use Rattle.std.specs.Prelude.{replicate}
use Rattle.records.specs.declared.node.Node.{Node}
use Rattle.records.specs.declared.alternative.Alternative.{Alternative}

abbrev pub blank_node : Node
blank_node = record { from = 255; to = 255; symbol = 255 }

abbrev pub blank_alternative : Alternative
blank_alternative = record { rule = 255; cuts = replicate 8 255 }
