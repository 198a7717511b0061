-- What a table of links holds for its user, and what the calls on it leave, whatever it holds.
--   links_of l                the links of the table l
--   place_of l                its last place
--   Blank l                   l has no links, and its last place is 0
--   Holds src ws l            l holds exactly the links of the words ws, each once
--   Same l m                  m has the links and the last place of l
--   most limit                the limit that counts where this one is given: a table has room for 4,096 links
--   Back k l m                m has the links of l at the places up to k, and its last place is k, or that of l where that comes before
--   Opened src n l r m        opening l, where n links are allowed, answered by r, leaves m
--   Took src x n l r m        taking the word x, where n links are allowed, answered by r, makes m of l
--   Tells b P                 b says whether P
use Rattle.std.specs.Prelude.{◌≡◌, ℕ, suc, ◌<◌, ◌≤◌, min, Bool, true, List, [], length, Ok, Err, Some, None, Result}
use Rattle.parsing.specs.Items.{Source}
use Rattle.link_growth.specs.declared.Link.{Link}
use Rattle.link_growth.specs.Counting.{Exact}
use Rattle.link_growth.specs.Closures.{Closure, Outgrows, StepsFrom}
use Rattle.links.specs.declared.links.Links.{Links}
use Rattle.links.specs.declared.fault.TooManyLinks.{TooManyLinks as Many}
use Rattle.links.specs.declared.fault.TakeFault.{TakeFault}
use Rattle.links.specs.Refusals.{number_of}
use Rattle.links.specs.Placing.{up_to}
use Rattle.links.specs.Tables.{content}

abbrev pub links_of : Links → List Link
links_of l = content l.table

abbrev pub place_of : Links → ℕ
place_of l = l.table.place

pub record Blank (l : Links) : Type 0 where
  pub links : links_of l ≡ []
  pub place : place_of l ≡ 0

pub record Holds (src : Source) (ws : List ℕ) (l : Links) : Type 0 where
  pub place : place_of l ≡ length ws
  pub exact : Exact src ws (links_of l)

pub record Same (l m : Links) : Type 0 where
  pub links : links_of m ≡ links_of l
  pub place : place_of m ≡ place_of l

abbrev pub most : ℕ → ℕ
most limit = min limit 4096

pub record Back (k : ℕ) (l m : Links) : Type 0 where
  pub links : links_of m ≡ up_to k (links_of l)
  pub place : place_of m ≡ min k (place_of l)

-- Where nothing is there, what the reductions make of nothing at place 0 is the answer. Otherwise place 0 is kept as it is. In both cases
-- the links left are within the limit; or they exceed it, and nothing has changed.
pub data Opened (src : Source) (n : ℕ) (l : Links) : Result (Unit {0}) Many → Links → Type 0 where
  opened_new : {m : Links} → Blank l → Closure src None 0 [] (links_of m) → length (links_of m) ≤ n → place_of m ≡ 0
      → Opened src n l (Ok tt) m
  refused_new : {m : Links} {f : Many} → Blank l → Outgrows src None 0 [] n → Same l m → Opened src n l (Err f) m
  opened_again : {m : Links} → (Blank l → ⊥) → Back 0 l m → length (links_of m) ≤ n → Opened src n l (Ok tt) m
  refused_again : {m : Links} {f : Many} → (Blank l → ⊥) → n < length (up_to 0 (links_of l)) → Same l m → Opened src n l (Err f) m

-- The first reason that applies, told by its number, and then nothing has changed; or the closure of the links at the next place.
pub data Took (src : Source) (x n : ℕ) (l : Links) : Result (Unit {0}) TakeFault → Links → Type 0 where
  full : {m : Links} {f : TakeFault} → number_of f ≡ 43 → 254 ≤ place_of l → Same l m → Took src x n l (Err f) m
  foreign : {m : Links} {f : TakeFault} → number_of f ≡ 44 → place_of l < 254 → src.grammar.terminals ≤ x → Same l m
      → Took src x n l (Err f) m
  stuck : {m : Links} {f : TakeFault} → number_of f ≡ 45 → place_of l < 254 → x < src.grammar.terminals
      → (StepsFrom src (links_of l) (place_of l) x → ⊥) → Same l m → Took src x n l (Err f) m
  crowded : {m : Links} {f : TakeFault} → number_of f ≡ 46 → place_of l < 254 → x < src.grammar.terminals
      → StepsFrom src (links_of l) (place_of l) x → Outgrows src (Some x) (suc (place_of l)) (links_of l) n → Same l m
      → Took src x n l (Err f) m
  taken : {m : Links} → place_of l < 254 → x < src.grammar.terminals → StepsFrom src (links_of l) (place_of l) x
      → Closure src (Some x) (suc (place_of l)) (links_of l) (links_of m) → length (links_of m) ≤ n
      → place_of m ≡ suc (place_of l) → Took src x n l (Ok tt) m

pub record Tells (b : Bool) (P : Type 0) : Type 0 where
  pub told : b ≡ true → P
  pub so : P → b ≡ true
