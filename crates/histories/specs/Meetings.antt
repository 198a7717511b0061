-- How a reading meets a word.
--   Fits src ws n         the words ws have at most n links
--   Meets src n ws t o    where the words ws are kept and n links are allowed, the terminal t is met by o: a refusal, or none, and it is taken
use Rattle.std.specs.Prelude.{ℕ, ◌<◌, ◌≤◌, List, [], ◌∷◌, ◌++◌, length, Some, None, Option}
use Rattle.grammar.specs.declared.refusal.Refusal.{Refusal}
use Rattle.parsing.specs.Items.{Source}
use Rattle.link_growth.specs.Counting.{Exceeds, Steps}
use Rattle.histories.specs.Refusals.{of_reading}

-- No list without repeats of links of the words is longer than n.
abbrev pub Fits : Source → List ℕ → ℕ → Type 0
Fits src ws n = Exceeds src ws n → ⊥

-- The first reason that applies decides; the places are the number of kept words and the terminal as given.
pub data Meets (src : Source) (n : ℕ) (ws : List ℕ) (t : ℕ) : Option Refusal → Type 0 where
  full : 254 ≤ length ws → Meets src n ws t (Some (of_reading 43 (length ws) t))
  foreign : length ws < 254 → src.grammar.terminals ≤ t → Meets src n ws t (Some (of_reading 44 (length ws) t))
  stuck : length ws < 254 → t < src.grammar.terminals → (Steps src ws t → ⊥)
      → Meets src n ws t (Some (of_reading 45 (length ws) t))
  crowded : length ws < 254 → t < src.grammar.terminals → Steps src ws t → Exceeds src (ws ++ t ∷ []) n
      → Meets src n ws t (Some (of_reading 46 (length ws) t))
  taken : length ws < 254 → t < src.grammar.terminals → Steps src ws t → Fits src (ws ++ t ∷ []) n
      → Meets src n ws t None
