-- The links of some words as a list, and their number.
--   Exact src ws xs      xs holds exactly the links of the words ws, each once
--   Counts src ws n      the words have n links: a list without repeats that holds exactly their links has this length
--   Exceeds src ws n     the words have more than n links: a list without repeats of links of theirs is longer
--   Steps src ws x       some state that is live at the end of the words has a step by the symbol x
--   Counting             the number of links is one number, and is exceeded by no list without repeats of links
use Rattle.std.specs.Prelude.{◌≡◌, ℕ, ◌<◌, ◌≢◌, List, length, None}
use Rattle.parsing.specs.Items.{Source}
use Rattle.parsing.specs.Links.{Linked, Live}
use Rattle.link_growth.specs.declared.Link.{Link}
use Rattle.link_growth.specs.Entries.{Has, Once}

pub record Exact (src : Source) (ws : List ℕ) (xs : List Link) : Type 0 where
  pub once : Once xs
  pub sound : (s j b i : ℕ) → Has xs s j b i → Linked src ws s j b i
  pub whole : (s j b i : ℕ) → Linked src ws s j b i → Has xs s j b i

pub record Counts (src : Source) (ws : List ℕ) (n : ℕ) : Type 0 where
  pub all : List Link
  pub exact : Exact src ws all
  pub size : length all ≡ n

pub record Exceeds (src : Source) (ws : List ℕ) (n : ℕ) : Type 0 where
  pub some : List Link
  pub once : Once some
  pub sound : (s j b i : ℕ) → Has some s j b i → Linked src ws s j b i
  pub long : n < length some

abbrev pub Steps : Source → List ℕ → ℕ → Type 0
Steps src ws x = (b : ℕ) × Live src ws b (length ws) × (src.next b x ≢ None)

abbrev pub Counting : Type 0
Counting = (src : Source) (ws : List ℕ)
    → ((m n : ℕ) → Counts src ws m → Counts src ws n → m ≡ n)
    × ((m n : ℕ) → Counts src ws m → Exceeds src ws n → n < m)
    × ((m n : ℕ) → Counts src ws m → n < m → Exceeds src ws n)
