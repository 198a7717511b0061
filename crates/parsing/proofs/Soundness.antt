-- A link spells a derivation of the symbol that enters its upper state.
use Rattle.std.proofs.Common.{◌≡◌, ℕ, ◌<◌, ◌≤◌, List, length, drop, Some, sym, refl, ◌∙◌, arith}
use lib.Seq.{drop-length}
use Rattle.parsing.specs.Grammar.{lhs, rhs}
use Rattle.parsing.specs.Grammar.{Derivation, word, node, Parts, end, part}
use Rattle.parsing.specs.Items.{Source, In, Lawful}
use Rattle.parsing.specs.Links.{Linked, shift, reduce, Live, bottom, linked, Chain, stay, down}
use Rattle.parsing.proofs.States.{next_drop, step_back}

mutual
  -- Links lead down to earlier places.
  pub linked_forward : {src : Source} {ws : List ℕ} {s j b i : ℕ} → Linked src ws s j b i → i ≤ j
  linked_forward (shift l h t e) = omega arith
  linked_forward (reduce r t l h c d e) = chain_forward c

  pub chain_forward : {src : Source} {ws : List ℕ} {m t j b i : ℕ} → Chain src ws m t j b i → i ≤ j
  chain_forward stay = omega arith
  chain_forward (down k c) =
      let a = linked_forward k in
      let b = chain_forward c in
      omega arith

mutual
  -- Places are places of the words.
  pub live_place : {src : Source} {ws : List ℕ} {b i : ℕ} → Live src ws b i → i ≤ length ws
  live_place bottom = omega arith
  live_place (linked k) = linked_place k

  pub linked_place : {src : Source} {ws : List ℕ} {s j b i : ℕ} → Linked src ws s j b i → j ≤ length ws
  linked_place (shift l h t e) = h
  linked_place (reduce r t l h c d e) = chain_place c (live_place l)

  pub chain_place : {src : Source} {ws : List ℕ} {m t j b i : ℕ} → Chain src ws m t j b i → i ≤ length ws → j ≤ length ws
  chain_place stay h = h
  chain_place (down k c) h = linked_place k

-- The lower end of a link is live.
pub below : {src : Source} {ws : List ℕ} {s j b i : ℕ} → Linked src ws s j b i → Live src ws b i
below (shift l h t e) = l
below (reduce r t l h c d e) = l

-- The symbol that enters the upper state of a link.
pub link_symbol : {src : Source} {ws : List ℕ} {s j b i : ℕ} → Linked src ws s j b i → (X : ℕ) × (src.next b X ≡ Some s)
link_symbol (shift l h t e) = (_, e)
link_symbol (reduce r t l h c d e) = (_, e)

module _ {src : Source} (law : Lawful src) {ws : List ℕ} where
  mutual
    -- What is live or linked is a state.
    pub live_state : {b i : ℕ} → Live src ws b i → b < src.states
    live_state bottom = law.first_in
    live_state (linked k) = linked_state k

    pub linked_state : {s j b i : ℕ} → Linked src ws s j b i → s < src.states
    linked_state (shift {s = s} {b = b} l h t e) = law.next_in b _ s (live_state l) e
    linked_state (reduce {s = s} {b = b} r t l h c d e) = law.next_in b _ s (live_state l) e

  pub chain_state : {m t j b i : ℕ} → Chain src ws m t j b i → b < src.states → t < src.states
  chain_state stay h = h
  chain_state (down k c) h = linked_state k

  mutual
    -- A link from s at j down to b at i enters s by a symbol that derives the words from i to j.
    pub sound : {s j b i : ℕ} → Linked src ws s j b i
        → (X : ℕ) × (src.next b X ≡ Some s) × Derivation src.grammar ws X i j
    sound (shift l h t e) = (_, e, word t h refl)
    sound (reduce r t l h c d e) =
        let g = src.grammar in
        let done : In src t r (length (rhs g r)) = sym (law.done_row t r (chain_state c (live_state l)) h) ∙ d in
        (lhs g r, e, node r h refl (spell c r done (rw drop-length end)))

    -- A chain under an item with its dot at m spells the first m symbols of the item's rule.
    pub spell : {m t j b i k : ℕ} → Chain src ws m t j b i → (r : ℕ) → In src t r m
        → Parts src.grammar ws (drop m (rhs src.grammar r)) j k → Parts src.grammar ws (rhs src.grammar r) i k
    spell stay r h ps = ps
    spell (down {j = j} l c) r h ps =
        let (X, e, d) = sound l in
        let (h', n) = step_back law (live_state (below l)) e h in
        spell c r h' (rw (next_drop n) (part j d ps))
