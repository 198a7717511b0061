-- Refusals in one line.
--   layer_name l     the layer l in lower case
--   refusal_line r   the number, the layer and the places of the refusal r
use Rattle.std.specs.Prelude.{ℕ, List, ◌++◌, codes, decimal}
use Rattle.grammar.specs.declared.refusal.Refusal.{Refusal}
use Rattle.grammar.specs.declared.refusal.Layer.{Layer}
use Rattle.grammar.specs.declared.refusal.Layer.TheVariants.{Grammar, Table, Reading, Feed, Program}

abbrev pub layer_name : Layer → List ℕ
layer_name Grammar = codes "grammar"
layer_name Table = codes "table"
layer_name Reading = codes "reading"
layer_name Feed = codes "feed"
layer_name Program = codes "program"

abbrev pub refusal_line : Refusal → List ℕ
refusal_line r = codes "refused " ++ (decimal r.number ++ (codes " " ++ (layer_name r.layer ++ (codes " " ++ (decimal r.first ++ (codes " " ++ decimal r.second))))))
