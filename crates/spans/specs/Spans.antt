-- Which parts fit between two places, and what is met from the top by asking only that.
--   Spans src K X i j             the symbol X spans the words from i to j over the links K
--   IsWord ws X i j               the terminal X is the word from i to j
--   Answers src K ws fits         `fits` says which terminals are which words, and which nonterminals span which words
--   Tells g ws fits               what fits derives, and all words and nodes that count fit
--   Path f p a q b                the parts from p up to q fit, one after another, from place a to place b
--   part_fits g fits r p a b      part p of rule r fits from a to b
--   Fitting g fits r cs           (r, cs) is an alternative whose parts all fit
--   Placed g fits r i j p a b     part p of rule r stands from a to b where all parts of r fit from i to j
--   Met g fits n X i j            the node (X, i, j) is met from the top
--   MetAlternative g fits n r cs  the alternative (r, cs) is met
use Rattle.std.specs.Prelude.{◌≡◌, ℕ, suc, ◌+◌, ◌<◌, Bool, true, ◌↔◌, List, length, Some, slice_index, slice_index_or}
use Rattle.parsing.specs.Grammar.{Grammar, rule_count, lhs, rhs, start, Nonterminal, Derivation}
use Rattle.parsing.specs.Items.{Source}
use Rattle.parsing.specs.Forest.{Reached}

-- X spans the words from i to j over a relation K of links: some link from j down to i enters its upper state by X.
abbrev pub Spans : Source → (ℕ → ℕ → ℕ → ℕ → Type 0) → ℕ → ℕ → ℕ → Type 0
Spans src K X i j = (s : ℕ) × (b : ℕ) × K s j b i × (src.next b X ≡ Some s)

-- The terminal X is the word from i to j.
pub record IsWord (ws : List ℕ) (X i j : ℕ) : Type 0 where
  pub inside : i < length ws
  pub same : slice_index_or ws i 0 ≡ X
  pub one : j ≡ suc i

-- `fits X i j` says of a terminal that it is the word from i to j, and of a nonterminal that it spans them over the links K.
pub record Answers (src : Source) (K : ℕ → ℕ → ℕ → ℕ → Type 0) (ws : List ℕ) (fits : ℕ → ℕ → ℕ → Bool) : Type 0 where
  pub words : (X i j : ℕ) → X < src.grammar.terminals → (fits X i j ≡ true) ↔ IsWord ws X i j
  pub spans : (X i j : ℕ) → Nonterminal src.grammar X → (fits X i j ≡ true) ↔ Spans src K X i j

-- All that a gathering wants of `fits`: what fits derives, and each word and each node that is reached fits.
pub record Tells (g : Grammar) (ws : List ℕ) (fits : ℕ → ℕ → ℕ → Bool) : Type 0 where
  pub sound : (X i j : ℕ) → X < g.terminals + g.nonterminals → fits X i j ≡ true → Derivation g ws X i j
  pub words : (X i j : ℕ) → X < g.terminals → Derivation g ws X i j → fits X i j ≡ true
  pub nodes : (X i j : ℕ) → Reached g ws X i j → fits X i j ≡ true

-- `Path f p a q b`: the parts from p up to q fit, one after another, from place a to place b.
pub data Path (f : ℕ → ℕ → ℕ → Bool) : ℕ → ℕ → ℕ → ℕ → Type 0 where
  stay : {p a : ℕ} → Path f p a p a
  step : {p a q b : ℕ} (c : ℕ) → f p a c ≡ true → Path f (p + 1) c q b → Path f p a q b

-- Part p of rule r fits from a to b.
abbrev pub part_fits : Grammar → (ℕ → ℕ → ℕ → Bool) → ℕ → ℕ → ℕ → ℕ → Bool
part_fits g fits r p a b = fits (slice_index (rhs g r) p) a b

-- (r, cs) is an alternative whose parts all fit between their cuts.
pub record Fitting (g : Grammar) (fits : ℕ → ℕ → ℕ → Bool) (r : ℕ) (cs : List ℕ) : Type 0 where
  pub rule_in : r < rule_count g
  pub count : length cs ≡ length (rhs g r) + 1
  pub fit : (p : ℕ) → p < length (rhs g r) → part_fits g fits r p (slice_index cs p) (slice_index cs (p + 1)) ≡ true

-- The part p of rule r stands from a to b in some way in which all parts of r fit from i to j.
pub record Placed (g : Grammar) (fits : ℕ → ℕ → ℕ → Bool) (r i j p a b : ℕ) : Type 0 where
  pub part_in : p < length (rhs g r)
  pub before : Path (part_fits g fits r) 0 i p a
  pub here : part_fits g fits r p a b ≡ true
  pub behind : Path (part_fits g fits r) (p + 1) b (length (rhs g r)) j

-- The nodes that are met from the top: the start symbol from 0 to n, and each nonterminal part of a node's rule, wherever it is placed.
pub data Met (g : Grammar) (fits : ℕ → ℕ → ℕ → Bool) (n : ℕ) : ℕ → ℕ → ℕ → Type 0 where
  crown : Met g fits n (start g) 0 n
  below : {i j : ℕ} (r p a b : ℕ) → r < rule_count g → Met g fits n (lhs g r) i j → Placed g fits r i j p a b
      → Nonterminal g (slice_index (rhs g r) p) → Met g fits n (slice_index (rhs g r) p) a b

-- An alternative is met when its parts fit and its node is met.
abbrev pub MetAlternative : Grammar → (ℕ → ℕ → ℕ → Bool) → ℕ → ℕ → List ℕ → Type 0
MetAlternative g fits n r cs = Fitting g fits r cs × Met g fits n (lhs g r) (slice_index cs 0) (slice_index cs (length (rhs g r)))
