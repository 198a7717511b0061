-- The theorems on what is gathered.
--   FitIsOne         over any words and links there is one answer to which symbols of the grammar fit, and so to what is met from the top
--   GatheredOccurs   over the links of the words, what is gathered is what occurs in the derivations of the words
use Rattle.std.specs.Prelude.{◌≡◌, ℕ, ◌+◌, ◌<◌, Bool, ◌↔◌, List, Result}
use Rattle.parsing.specs.Grammar.{WellFormed}
use Rattle.parsing.specs.Items.{Source, Lawful}
use Rattle.parsing.specs.Links.{Linked}
use Rattle.spans.specs.Spans.{Answers, Met, MetAlternative}
use Rattle.records.specs.declared.node.Node.{Node}
use Rattle.records.specs.declared.alternative.Alternative.{Alternative}
use Rattle.link_growth.specs.declared.Link.{Link}
use Rattle.forest.specs.declared.gathering.Counts.{Counts}
use Rattle.forest.specs.declared.fault.GatherFault.{GatherFault}
use Rattle.forest.specs.Forests.{Among, Holds, Gathers, GathersForest}

abbrev pub FitIsOne : Type 0
FitIsOne = (src : Source) → WellFormed src.grammar → (ws : List ℕ) (ks : List Link) (f h : ℕ → ℕ → ℕ → Bool)
    → Answers src (Among ks) ws f → Answers src (Among ks) ws h
    → ((X i j : ℕ) → X < src.grammar.terminals + src.grammar.nonterminals → f X i j ≡ h X i j)
    × ((n X i j : ℕ) → Met src.grammar f n X i j ↔ Met src.grammar h n X i j)
    × ((n r : ℕ) (cs : List ℕ) → MetAlternative src.grammar f n r cs ↔ MetAlternative src.grammar h n r cs)

-- A list that holds exactly the links of the words, over any source of LR(0) states.
abbrev pub GatheredOccurs : Type 0
GatheredOccurs = (src : Source) → WellFormed src.grammar → Lawful src → (ws : List ℕ) (ks : List Link) → Holds ks (Linked src ws)
    → (xs vs : List Node) (ys zs : List Alternative) (r : Result Counts GatherFault)
    → Gathers src ws ks xs ys vs zs r → GathersForest src.grammar ws xs ys vs zs r
