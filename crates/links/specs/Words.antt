-- What the calls on links leave and answer where the links that are held are exactly those of some words.
--   Ready src l                     l is blank, or holds the links of some words
--   OpenedWords src n l r m         opening l, where n links are allowed, answered by r, leaves m
--   TookWords src ws x n l r m      taking the word x behind the words ws, where n links are allowed, answered by r, makes m of l
--   Wordwise                        the calls do so, and what is asked of the links is answered of the words
use Rattle.std.specs.Prelude.{◌≡◌, ℕ, ◌<◌, ◌≤◌, ◌↔◌, List, [], ◌∷◌, ◌++◌, length, take, Ok, Err, Result}
use Rattle.parsing.specs.Items.{Source}
use Rattle.parsing.specs.Links.{Linked}
use Rattle.link_growth.specs.Entries.{Has}
use Rattle.link_growth.specs.Counting.{Counts, Exceeds, Steps}
use Rattle.links.specs.declared.links.Links.{Links}
use Rattle.links.specs.declared.fault.TooManyLinks.{TooManyLinks as Many}
use Rattle.links.specs.declared.fault.TakeFault.{TakeFault}
use Rattle.links.specs.Placing.{at_place}
use Rattle.links.specs.Refusals.{number_of}
use Rattle.links.specs.Holding.{links_of, Blank, Holds, Same, Back, Opened, Took}

pub data Ready (src : Source) (l : Links) : Type 0 where
  blank : Blank l → Ready src l
  holding : (ws : List ℕ) → Holds src ws l → Ready src l

-- The links of no words are within the limit, and held; or they exceed it, and nothing has changed.
abbrev pub OpenedWords : Source → ℕ → Links → Result (Unit {0}) Many → Links → Type 0
OpenedWords src n l (Ok _) m = Holds src [] m × (Exceeds src [] n → ⊥)
OpenedWords src n l (Err _) m = Exceeds src [] n × Same l m

-- The first reason that applies, and then nothing has changed; or the links of the words with x, which are within the limit.
pub data TookWords (src : Source) (ws : List ℕ) (x n : ℕ) (l : Links) : Result (Unit {0}) TakeFault → Links → Type 0 where
  full : {m : Links} {f : TakeFault} → number_of f ≡ 43 → 254 ≤ length ws → Same l m → TookWords src ws x n l (Err f) m
  foreign : {m : Links} {f : TakeFault} → number_of f ≡ 44 → length ws < 254 → src.grammar.terminals ≤ x → Same l m
      → TookWords src ws x n l (Err f) m
  stuck : {m : Links} {f : TakeFault} → number_of f ≡ 45 → length ws < 254 → x < src.grammar.terminals → (Steps src ws x → ⊥)
      → Same l m → TookWords src ws x n l (Err f) m
  crowded : {m : Links} {f : TakeFault} → number_of f ≡ 46 → length ws < 254 → x < src.grammar.terminals → Steps src ws x
      → Exceeds src (ws ++ x ∷ []) n → Same l m → TookWords src ws x n l (Err f) m
  taken : {m : Links} → length ws < 254 → x < src.grammar.terminals → Steps src ws x → (Exceeds src (ws ++ x ∷ []) n → ⊥)
      → Holds src (ws ++ x ∷ []) m → TookWords src ws x n l (Ok tt) m

pub record WordwiseAt (src : Source) (l : Links) : Type 0 where
  pub opened : (n : ℕ) (r : Result (Unit {0}) Many) (m : Links) → Ready src l → Opened src n l r m → OpenedWords src n l r m
  pub took : (ws : List ℕ) (x n : ℕ) (r : Result (Unit {0}) TakeFault) (m : Links) → Holds src ws l → Took src x n l r m
      → TookWords src ws x n l r m
  pub back : (ws : List ℕ) (k : ℕ) (m : Links) → Holds src ws l → Back k l m → Holds src (take k ws) m
  pub counts : (ws : List ℕ) → Holds src ws l → Counts src ws (length (links_of l))
  pub has : (ws : List ℕ) (s p b i : ℕ) → Holds src ws l → Has (links_of l) s p b i ↔ Linked src ws s p b i
  pub placed : (ws : List ℕ) (s p b i : ℕ) → Holds src ws l → Has (at_place p (links_of l)) s p b i ↔ Linked src ws s p b i

abbrev pub Wordwise : Type 0
Wordwise = (src : Source) (l : Links) → WordwiseAt src l
