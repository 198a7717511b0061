-- The links of a generalised LR parse: the graph-structured stack, as the least set that shifts and reductions make.
--   Linked src ws s j b i    a link leads from the state s at place j down to the state b at place i
--   Live src ws b i          the state b is live at place i
--   Chain src ws m t j b i   m links lead, one after another, from the state t at place j down to the state b at place i
--   ChainOf K m t j b i      the same, over any relation K of links
--   LiveOf src K b i         the state b is live at place i over K
--   Saturated src ws K j     K holds all that shifts and reductions that end at place j make of it
use Rattle.std.specs.Prelude.{◌≡◌, ℕ, zero, suc, ◌<◌, true, ◌⊎◌, List, length, Some, slice_index}
use Rattle.parsing.specs.Grammar.{rule_count, lhs, rhs}
use Rattle.parsing.specs.Items.{Source}

mutual
  -- A shift steps by the word at place j. A reduction by the rule r goes down a chain as long as the rule, from a state where the rule
  -- is done, and steps from the chain's lower end by the rule's left symbol.
  pub data Linked (src : Source) (ws : List ℕ) : ℕ → ℕ → ℕ → ℕ → Type 0 where
    shift : {s b j : ℕ} → Live src ws b j → j < length ws → slice_index ws j < src.grammar.terminals
        → src.next b (slice_index ws j) ≡ Some s → Linked src ws s (suc j) b j
    reduce : {s j b i : ℕ} (r t : ℕ) → Live src ws b i → r < rule_count src.grammar
        → Chain src ws (length (rhs src.grammar r)) t j b i → src.done t r ≡ true
        → src.next b (lhs src.grammar r) ≡ Some s → Linked src ws s j b i

  -- The first state is live at place 0, and so is the upper end of each link at its place.
  pub data Live (src : Source) (ws : List ℕ) : ℕ → ℕ → Type 0 where
    bottom : Live src ws src.first 0
    linked : {s j b i : ℕ} → Linked src ws s j b i → Live src ws s j

  pub data Chain (src : Source) (ws : List ℕ) : ℕ → ℕ → ℕ → ℕ → ℕ → Type 0 where
    stay : {t j : ℕ} → Chain src ws zero t j t j
    down : {m t j s k b i : ℕ} → Linked src ws t j s k → Chain src ws m s k b i → Chain src ws (suc m) t j b i

pub data ChainOf (K : ℕ → ℕ → ℕ → ℕ → Type 0) : ℕ → ℕ → ℕ → ℕ → ℕ → Type 0 where
  stay_of : {t j : ℕ} → ChainOf K zero t j t j
  down_of : {m t j s k b i : ℕ} → K t j s k → ChainOf K m s k b i → ChainOf K (suc m) t j b i

abbrev pub LiveOf : Source → (ℕ → ℕ → ℕ → ℕ → Type 0) → ℕ → ℕ → Type 0
LiveOf src K b i = ((b ≡ src.first) × (i ≡ 0)) ⊎ ((c : ℕ) × (k : ℕ) × K b i c k)

pub record Saturated (src : Source) (ws : List ℕ) (K : ℕ → ℕ → ℕ → ℕ → Type 0) (j : ℕ) : Type 0 where
  pub shifts : (s b i : ℕ) → j ≡ suc i → LiveOf src K b i → i < length ws → slice_index ws i < src.grammar.terminals
      → src.next b (slice_index ws i) ≡ Some s → K s j b i
  pub reduces : (s b i r t : ℕ) → LiveOf src K b i → r < rule_count src.grammar
      → ChainOf K (length (rhs src.grammar r)) t j b i → src.done t r ≡ true
      → src.next b (lhs src.grammar r) ≡ Some s → K s j b i
