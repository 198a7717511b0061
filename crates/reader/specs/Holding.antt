-- What a reading holds.
--   Sound src o ws l   the limit o, the kept words ws and the links l belong together over src
--   holding o ws       what a reading with the limit o and the kept words ws holds
use Rattle.std.specs.Prelude.{◌≡◌, ℕ, List, [], Some, None, Option}
use Rattle.parsing.specs.Items.{Source}
use Rattle.links.specs.declared.links.Links.{Links}
use Rattle.links.specs.Holding.{Blank, Holds}
use Rattle.histories.specs.Calls.{Held, closed, opened}
use Rattle.histories.specs.Doings.{Limit}

-- A closed reading has no words and no links, an open one exactly the links of its words.
abbrev pub Sound : Source → Option ℕ → List ℕ → Links → Type 0
Sound src None ws l = (ws ≡ []) × Blank l
Sound src (Some n) ws l = Limit n × Holds src ws l

abbrev pub holding : Option ℕ → List ℕ → Held
holding None ws = closed
holding (Some n) ws = opened n ws
