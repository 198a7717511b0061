-- The packed forest of a sentence: the nodes and the alternatives of all its derivations, and those that are reached from the top.
-- A node (X, i, j) is a nonterminal X over the words from place i to place j. An alternative (r, cs) is a rule r with its cuts cs:
-- the places where its parts begin, and the place where the last ends.
--   cuts ps                        the cuts of the parts ps
--   Same X i j Y k l               (X, i, j) and (Y, k, l) are the same node
--   SameCuts r cs q bs             (r, cs) and (q, bs) are the same alternative
--   Occurs d X i j                 the node (X, i, j) occurs in the derivation d; OccursIn, in one of some parts
--   Uses d r cs                    a node of the derivation d is made by the alternative (r, cs); UsesIn, of one of some parts
--   Alternative g ws r cs          (r, cs) is an alternative: each right symbol of r derives the words between its two cuts
--   Reached g ws X i j             the node (X, i, j) is reached from the top
--   ReachedAlternative g ws r cs   (r, cs) is an alternative of a node that is reached
use Rattle.std.specs.Prelude.{◌≡◌, ℕ, suc, ◌<◌, ◌⊎◌, List, [], ◌∷◌, length, slice_index}
use Rattle.parsing.specs.Grammar.{Grammar, rule_count, lhs, rhs, start, Nonterminal}
use Rattle.parsing.specs.Grammar.{Derivation, word, node, Parts, end, part}

abbrev pub cuts : {g : Grammar} {ws Xs : List ℕ} {i j : ℕ} → Parts g ws Xs i j → List ℕ
cuts (end {i = i}) = i ∷ []
cuts (part {i = i} k d ps) = i ∷ cuts ps

pub record Same (X i j Y k l : ℕ) : Type 0 where
  pub symbol : Y ≡ X
  pub from : k ≡ i
  pub to : l ≡ j

pub record SameCuts (r : ℕ) (cs : List ℕ) (q : ℕ) (bs : List ℕ) : Type 0 where
  pub rule : q ≡ r
  pub places : bs ≡ cs

abbrev mutual
  pub Occurs : {g : Grammar} {ws : List ℕ} {Y k l : ℕ} → Derivation g ws Y k l → ℕ → ℕ → ℕ → Type 0
  Occurs (word t h e) X i j = ⊥
  Occurs (node {X = Y} {i = k} {j = l} r h e ps) X i j = Same X i j Y k l ⊎ OccursIn ps X i j

  pub OccursIn : {g : Grammar} {ws Ys : List ℕ} {k l : ℕ} → Parts g ws Ys k l → ℕ → ℕ → ℕ → Type 0
  OccursIn end X i j = ⊥
  OccursIn (part m d ps) X i j = Occurs d X i j ⊎ OccursIn ps X i j

abbrev mutual
  pub Uses : {g : Grammar} {ws : List ℕ} {Y k l : ℕ} → Derivation g ws Y k l → ℕ → List ℕ → Type 0
  Uses (word t h e) r cs = ⊥
  Uses (node q h e ps) r cs = SameCuts r cs q (cuts ps) ⊎ UsesIn ps r cs

  pub UsesIn : {g : Grammar} {ws Ys : List ℕ} {k l : ℕ} → Parts g ws Ys k l → ℕ → List ℕ → Type 0
  UsesIn end r cs = ⊥
  UsesIn (part m d ps) r cs = Uses d r cs ⊎ UsesIn ps r cs

pub record Alternative (g : Grammar) (ws : List ℕ) (r : ℕ) (cs : List ℕ) : Type 0 where
  pub rule_in : r < rule_count g
  pub count : length cs ≡ suc (length (rhs g r))
  pub derives : (p : ℕ) → p < length (rhs g r) → Derivation g ws (slice_index (rhs g r) p) (slice_index cs p) (slice_index cs (suc p))

-- The top is the start symbol over all words; below a node that is reached, each nonterminal part of each of its alternatives is.
pub data Reached (g : Grammar) (ws : List ℕ) : ℕ → ℕ → ℕ → Type 0 where
  top : Reached g ws (start g) 0 (length ws)
  child : (r : ℕ) (cs : List ℕ) (p : ℕ) → Alternative g ws r cs
      → Reached g ws (lhs g r) (slice_index cs 0) (slice_index cs (length (rhs g r)))
      → p < length (rhs g r) → Nonterminal g (slice_index (rhs g r) p)
      → Reached g ws (slice_index (rhs g r) p) (slice_index cs p) (slice_index cs (suc p))

abbrev pub ReachedAlternative : Grammar → List ℕ → ℕ → List ℕ → Type 0
ReachedAlternative g ws r cs =
    Alternative g ws r cs × Reached g ws (lhs g r) (slice_index cs 0) (slice_index cs (length (rhs g r)))
