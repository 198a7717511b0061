-- How the words of a sentence are met, one after another.
use Rattle.std.proofs.Common.{ℕ, ◌<◌, List, ◌∷◌, ◌++◌}
use Rattle.parsing.specs.Grammar.{Sentence}
use Rattle.parsing.specs.Items.{Source}
use Rattle.parsing.proofs.Theorems.{viable}
use Rattle.states.specs.Sources.{Sourced}
use Rattle.link_growth.specs.Counting.{Steps}

-- The words before a terminal of a sentence end with a state that steps by it.
pub steps_on : {src : Source} → Sourced src → (ws vs : List ℕ) (t : ℕ) → t < src.grammar.terminals
    → Sentence src.grammar (ws ++ t ∷ vs) → Steps src ws t
steps_on {src} law ws vs t h x = (viable src law.well_formed law.lawful ws t h).1 (vs, x)
