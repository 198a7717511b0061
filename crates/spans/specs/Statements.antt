-- The theorems that let a gathering ask only which parts fit.
--   SpansTell    the words and the spans tell what a gathering wants
--   SpansJudge   they tell whether the words are a sentence
--   MetForest    what is met from the top is what occurs in the derivations
--   MetIsOne     where two answers to what fits agree on the symbols of the grammar, the same is met by both
use Rattle.std.specs.Prelude.{◌≡◌, ℕ, ◌+◌, ◌<◌, Bool, true, ◌↔◌, List, length}
use Rattle.parsing.specs.Grammar.{Grammar, Sentence, WellFormed, start}
use Rattle.parsing.specs.Items.{Source, Lawful}
use Rattle.parsing.specs.Links.{Linked}
use Rattle.parsing.specs.Forest.{Occurs, Uses}
use Rattle.spans.specs.Spans.{Answers, Tells, Met, MetAlternative}

-- Over the links of the words of a sentence, the words and the spans tell what a gathering wants.
abbrev pub SpansTell : Type 0
SpansTell = (src : Source) → WellFormed src.grammar → Lawful src → (ws : List ℕ) → Sentence src.grammar ws
    → (fits : ℕ → ℕ → ℕ → Bool) → Answers src (Linked src ws) ws fits → Tells src.grammar ws fits

-- Over the links of the words, the start symbol fits over all of them exactly when they are a sentence.
abbrev pub SpansJudge : Type 0
SpansJudge = (src : Source) → WellFormed src.grammar → Lawful src → (ws : List ℕ)
    → (fits : ℕ → ℕ → ℕ → Bool) → Answers src (Linked src ws) ws fits
    → (fits (start src.grammar) 0 (length ws) ≡ true) ↔ Sentence src.grammar ws

-- What is met is what occurs in some derivation of the words.
abbrev pub MetForest : Type 0
MetForest = (g : Grammar) → WellFormed g → (ws : List ℕ) → Sentence g ws → (fits : ℕ → ℕ → ℕ → Bool) → Tells g ws fits
    → ((X i j : ℕ) → Met g fits (length ws) X i j ↔ ((d : Sentence g ws) × Occurs d X i j))
    × ((r : ℕ) (cs : List ℕ) → MetAlternative g fits (length ws) r cs ↔ ((d : Sentence g ws) × Uses d r cs))

-- Where two answers to what fits agree on the symbols of the grammar, the same is met by both.
abbrev pub MetIsOne : Type 0
MetIsOne = (g : Grammar) → WellFormed g → (f h : ℕ → ℕ → ℕ → Bool) → ((X i j : ℕ) → X < g.terminals + g.nonterminals → f X i j ≡ h X i j)
    → (n : ℕ) → ((X i j : ℕ) → Met g f n X i j ↔ Met g h n X i j) × ((r : ℕ) (cs : List ℕ) → MetAlternative g f n r cs ↔ MetAlternative g h n r cs)
