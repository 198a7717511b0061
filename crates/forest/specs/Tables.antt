-- Tables of what fits.
--   cell cells i j       the set of symbols for the places i and j
--   told cells x i j     what the cells tell: x fits from i to j
--   Joined x j old new    the row `new` is the row `old` with the symbol x, if that is below 64, in its set for the place j
--   Grown P old new      `new` tells what `old` tells and all with the property P, and nothing else
--   One x i j            the symbol x from i to j
--   OfWord g ws n        a terminal over the word that it is, of the first n words
--   OfLink src k         a nonterminal by which the link k enters its upper state, over the words between its places
--   OfLinks src ks n     the same for one of the first n of the links ks
use Rattle.std.specs.Prelude.{◌≡◌, ℕ, ◌<◌, ◌≤◌, Bool, true, ◌&&◌, ◌⊎◌, List, [], length, Some, nat_le, nat_lt, slice_index_or, slice_set}
use Rattle.parsing.specs.Grammar.{Grammar, Nonterminal}
use Rattle.parsing.specs.Items.{Source}
use Rattle.rows.specs.Changes.{Joins}
use Rattle.rows.specs.Rows.{member}
use Rattle.rows.specs.declared.symbols.SymbolSet.{SymbolSet}
use Rattle.spans.specs.Spans.{IsWord}
use Rattle.link_growth.specs.declared.Link.{Link}

abbrev pub cell : List (List SymbolSet) → ℕ → ℕ → SymbolSet
cell cells i j = slice_index_or (slice_index_or cells i []) j (record { bits = 0 })

unfoldable pub told : List (List SymbolSet) → ℕ → ℕ → ℕ → Bool
told cells x i j = nat_lt j 256 && (nat_le i j && member (cell cells i j) x)

pub record Joined (x j : ℕ) (old new : List SymbolSet) : Type 0 where
  pub size : length old ≡ 256
  pub symbols : SymbolSet
  pub put : new ≡ slice_set old j symbols
  pub joins : Joins (member (slice_index_or old j (record { bits = 0 }))) x (member symbols)

pub record Grown (P : ℕ → ℕ → ℕ → Type 0) (old new : ℕ → ℕ → ℕ → Bool) : Type 0 where
  pub kept : (x i j : ℕ) → old x i j ≡ true → new x i j ≡ true
  pub whole : (x i j : ℕ) → P x i j → new x i j ≡ true
  pub only : (x i j : ℕ) → new x i j ≡ true → (old x i j ≡ true) ⊎ P x i j

pub record One (x i j y a b : ℕ) : Type 0 where
  pub symbol : y ≡ x
  pub from : a ≡ i
  pub to : b ≡ j
  pub small : x < 64
  pub forward : i ≤ j

pub record OfWord (g : Grammar) (ws : List ℕ) (n x i j : ℕ) : Type 0 where
  pub terminal : x < g.terminals
  pub here : IsWord ws x i j
  pub early : i < n

pub record OfLink (src : Source) (k : Link) (x i j : ℕ) : Type 0 where
  pub nonterminal : Nonterminal src.grammar x
  pub enters : src.next k.below x ≡ Some k.state
  pub from : i ≡ k.below_place
  pub to : j ≡ k.place
  pub forward : i ≤ j

abbrev pub link_of : List Link → ℕ → Link
link_of ks t = slice_index_or ks t (record { state = 0; place = 0; below = 0; below_place = 0 })

pub record OfLinks (src : Source) (ks : List Link) (n x i j : ℕ) : Type 0 where
  pub index : ℕ
  pub index_in : index < n
  pub of : OfLink src (link_of ks index) x i j
