-- Context-free grammars, and the derivations of their symbols over a list of words.
--   Rule                    a left symbol, and the right symbols that it may be rewritten to
--   Grammar                 terminals, nonterminals and rules
--   rule_count g            how many rules there are; they are numbered from 0
--   rule g r                the rule r
--   lhs g r, rhs g r        its left symbol, and the list of its right symbols
--   goal g                  the first nonterminal, which rule 0 rewrites
--   start g                 the symbol that rule 0 rewrites the goal to
--   Nonterminal g X         X is a nonterminal
--   Derivation g ws X i j   the symbol X derives the words of ws from place i to place j
--   Parts g ws Xs i j       the symbols Xs derive them, one after another
--   Sentence g ws           the words are a sentence: the start symbol derives all of them
--   Productive g X          the symbol X derives some list of words
--   WellFormed g            the grammar is one that can be parsed by rows of items
use Rattle.std.specs.Prelude.{◌≡◌, ℕ, suc, ◌+◌, ◌<◌, ◌≤◌, ◌≢◌, List, [], ◌∷◌, length, slice_index, slice_index_or}

pub record Rule : Type 0 where
  pub left : ℕ
  pub right : List ℕ

-- Symbols below `terminals` are terminals; the next `nonterminals` symbols are nonterminals.
pub record Grammar : Type 0 where
  pub terminals : ℕ
  pub nonterminals : ℕ
  pub rules : List Rule

abbrev pub rule_count : Grammar → ℕ
rule_count g = length g.rules

unfoldable pub rule : Grammar → ℕ → Rule
rule g r = slice_index_or g.rules r (record { left = 0; right = [] })

unfoldable pub lhs : Grammar → ℕ → ℕ
lhs g r = (rule g r).left

unfoldable pub rhs : Grammar → ℕ → List ℕ
rhs g r = (rule g r).right

abbrev pub goal : Grammar → ℕ
goal g = g.terminals

abbrev pub start : Grammar → ℕ
start g = slice_index (rhs g 0) 0

pub record Nonterminal (g : Grammar) (X : ℕ) : Type 0 where
  pub low : g.terminals ≤ X
  pub high : X < g.terminals + g.nonterminals

mutual
  -- A terminal derives the one word that it is; the left symbol of a rule derives what the right symbols derive.
  pub data Derivation (g : Grammar) (ws : List ℕ) : ℕ → ℕ → ℕ → Type 0 where
    word : {X i : ℕ} → X < g.terminals → i < length ws → slice_index ws i ≡ X → Derivation g ws X i (suc i)
    node : {X i j : ℕ} (r : ℕ) → r < rule_count g → lhs g r ≡ X → Parts g ws (rhs g r) i j → Derivation g ws X i j

  -- Each part begins where the one before it ends.
  pub data Parts (g : Grammar) (ws : List ℕ) : List ℕ → ℕ → ℕ → Type 0 where
    end : {i : ℕ} → Parts g ws [] i i
    part : {X : ℕ} {Xs : List ℕ} {i j : ℕ} (k : ℕ) → Derivation g ws X i k → Parts g ws Xs k j → Parts g ws (X ∷ Xs) i j

abbrev pub Sentence : Grammar → List ℕ → Type 0
Sentence g ws = Derivation g ws (start g) 0 (length ws)

abbrev pub Productive : Grammar → ℕ → Type 0
Productive g X = (ws : List ℕ) × Derivation g ws X 0 (length ws)

-- At most 64 rules with at most 7 right symbols each, over the symbols of the grammar. Rule 0 rewrites the goal to the start symbol,
-- which is another nonterminal, and the goal stands nowhere else. Each nonterminal is productive.
pub record WellFormed (g : Grammar) : Type 0 where
  pub two_rules : 2 ≤ rule_count g
  pub few_rules : rule_count g ≤ 64
  pub left_in : (r : ℕ) → r < rule_count g → Nonterminal g (lhs g r)
  pub right_in : (r d : ℕ) → r < rule_count g → d < length (rhs g r) → slice_index (rhs g r) d < g.terminals + g.nonterminals
  pub short : (r : ℕ) → r < rule_count g → length (rhs g r) ≤ 7
  pub goal_left : lhs g 0 ≡ goal g
  pub goal_right : length (rhs g 0) ≡ 1
  pub start_in : Nonterminal g (start g)
  pub start_goal : start g ≢ goal g
  pub goal_once : (r : ℕ) → r < rule_count g → lhs g r ≡ goal g → r ≡ 0
  pub goal_unused : (r d : ℕ) → r < rule_count g → d < length (rhs g r) → slice_index (rhs g r) d ≢ goal g
  -- Only that there are such words, and not which: so a grammar is well-formed in one way at most.
  pub productive : (X : ℕ) → Nonterminal g X → ∥ Productive g X ∥₁
