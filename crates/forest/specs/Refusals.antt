-- The refusals of a gathering: the number, the layer and the places of each.
--   no_sentence          the words are not a sentence
--   nodes_short          the list of nodes is too short
--   alternatives_short   the list of alternatives is too short
--   refusal f            the refusal that the fault f is shown as
use Rattle.std.specs.Prelude.{ℕ}
use Rattle.grammar.specs.declared.refusal.Refusal.{Refusal}
use Rattle.grammar.specs.declared.refusal.Layer.TheVariants.{Reading}
use Rattle.forest.specs.declared.fault.GatherFault.{GatherFault}
use Rattle.forest.specs.declared.fault.GatherFault.TheVariants.{NoSentence, NodesShort, AlternativesShort}

abbrev pub of_reading : ℕ → Refusal
of_reading n = record { number = n; layer = Reading; first = 0; second = 0 }

abbrev pub no_sentence : Refusal
no_sentence = of_reading 48

abbrev pub nodes_short : Refusal
nodes_short = of_reading 49

abbrev pub alternatives_short : Refusal
alternatives_short = of_reading 50

abbrev pub refusal : GatherFault → Refusal
refusal NoSentence = no_sentence
refusal NodesShort = nodes_short
refusal AlternativesShort = alternatives_short
