-- The theorems of generalised LR parsing over LR(0) states.
--   Productivity   whether a symbol is productive can be decided
--   Soundness      each link spells a derivation
--   Entering       a state is entered by one symbol only
--   Completeness   each derivation makes a link
--   Judgement      the links tell whether the words are a sentence
--   Viability      the live states tell which terminals may follow the words
--   ViablePrefix   the live states tell whether the words begin a sentence
--   Stability      more words change no link
--   Forest         what is reached from the top is what occurs in the derivations
--   Leastness      the links are the least saturated table
--   RowsByBits     rows are told by their bits
--   Witness        the hypotheses of these theorems can be met
use Rattle.std.specs.Prelude.{◌≡◌, ℕ, ◌<◌, ◌≤◌, Bool, true, ◌≢◌, ◌⊎◌, ◌↔◌, List, ◌∷◌, ◌++◌, length, Some, None}
use Rattle.parsing.specs.Grammar.{Grammar, Derivation, Sentence, Productive, WellFormed, start}
use Rattle.parsing.specs.Items.{Source, Lawful, In, Next}
use Rattle.parsing.specs.Links.{Linked, Live, Saturated}
use Rattle.parsing.specs.Forest.{Occurs, Uses, Reached, ReachedAlternative}
use Rattle.parsing.specs.Rows.{has, IsRow}

-- Each symbol of each grammar is productive or is not.
abbrev pub Productivity : Type 0
Productivity = (g : Grammar) (X : ℕ) → Productive g X ⊎ (Productive g X → ⊥)

-- A link from s at j down to b at i enters s by a symbol that derives the words from i to j.
abbrev pub Soundness : Type 0
Soundness = (src : Source) → Lawful src → (ws : List ℕ) (s j b i : ℕ) → Linked src ws s j b i
    → (X : ℕ) × (src.next b X ≡ Some s) × Derivation src.grammar ws X i j × (i ≤ j) × (j ≤ length ws)

-- Two steps that enter the same state are steps by the same symbol.
abbrev pub Entering : Type 0
Entering = (src : Source) → Lawful src → (b c X Y s : ℕ) → b < src.states → c < src.states
    → src.next b X ≡ Some s → src.next c Y ≡ Some s → X ≡ Y

-- Where X comes next in an item of a state that is live at i, each derivation of X from i makes a link.
abbrev pub Completeness : Type 0
Completeness = (src : Source) → Lawful src → (ws : List ℕ) (b i j r d X : ℕ)
    → Live src ws b i → In src b r d → Next src.grammar r d X → Derivation src.grammar ws X i j
    → (s : ℕ) × (src.next b X ≡ Some s) × Linked src ws s j b i

-- The first state has a step by the start symbol, and it is linked over all words exactly when they are a sentence.
abbrev pub Judgement : Type 0
Judgement = (src : Source) → WellFormed src.grammar → Lawful src
    → (s : ℕ) × (src.next src.first (start src.grammar) ≡ Some s)
    × ((ws : List ℕ) → Linked src ws s (length ws) src.first 0 ↔ Sentence src.grammar ws)

-- A live state at the end of the words has a step by the terminal t exactly when the words and t begin a sentence.
abbrev pub Viability : Type 0
Viability = (src : Source) → WellFormed src.grammar → Lawful src → (ws : List ℕ) (t : ℕ) → t < src.grammar.terminals
    → ((b : ℕ) × Live src ws b (length ws) × (src.next b t ≢ None)) ↔ ((vs : List ℕ) × Sentence src.grammar (ws ++ t ∷ vs))

-- Some state is live at the end of the words exactly when they begin a sentence.
abbrev pub ViablePrefix : Type 0
ViablePrefix = (src : Source) → WellFormed src.grammar → Lawful src → (ws : List ℕ)
    → ((b : ℕ) × Live src ws b (length ws)) ↔ ((vs : List ℕ) × Sentence src.grammar (ws ++ vs))

-- More words change neither the links nor the live states up to a place of the words before them.
abbrev pub Stability : Type 0
Stability = (src : Source) (ws vs : List ℕ)
    → ((s j b i : ℕ) → j ≤ length ws → Linked src (ws ++ vs) s j b i ↔ Linked src ws s j b i)
    × ((b i : ℕ) → i ≤ length ws → Live src (ws ++ vs) b i ↔ Live src ws b i)

-- The nodes and the alternatives of the derivations of a sentence are those that are reached from its top.
abbrev pub Forest : Type 0
Forest = (g : Grammar) → WellFormed g → (ws : List ℕ) → Sentence g ws
    → ((X i j : ℕ) → Reached g ws X i j ↔ ((d : Sentence g ws) × Occurs d X i j))
    × ((r : ℕ) (cs : List ℕ) → ReachedAlternative g ws r cs ↔ ((d : Sentence g ws) × Uses d r cs))

-- The links are saturated at each place, and a table of links that is saturated up to place n holds all links up to n.
abbrev pub Leastness : Type 0
Leastness = (src : Source) (ws : List ℕ)
    → ((j : ℕ) → Saturated src ws (Linked src ws) j)
    × ((K : ℕ → ℕ → ℕ → ℕ → Bool) (n : ℕ) → ((j : ℕ) → j ≤ n → Saturated src ws (λ s j b i. K s j b i ≡ true) j)
    → (s j b i : ℕ) → j ≤ n → Linked src ws s j b i → K s j b i ≡ true)

-- Two rows are equal exactly when all their bits are.
abbrev pub RowsByBits : Type 0
RowsByBits = (v w : List ℕ) → IsRow v → IsRow w
    → (v ≡ w) ↔ ((r d : ℕ) → r < 64 → d < 8 → has v r d ≡ has w r d)

-- Some source is lawful, over a well-formed grammar.
abbrev pub Witness : Type 0
Witness = (src : Source) × WellFormed src.grammar × Lawful src
