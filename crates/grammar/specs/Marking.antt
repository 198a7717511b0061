-- Marks on symbols, to find those that derive some list of terminals.
--   marked m X       the symbol X is marked
--   Ready m xs       all symbols of xs are marked
--   Within m n       every mark of m is one of n
--   Sound g m        only symbols that derive some list of terminals of g are marked
--   Closed ps m n    of the first n rules, each that is ready has its left symbol marked
--   unmarked m n     how many of the first n symbols are not marked
use Rattle.std.specs.Prelude.{◌≡◌, ℕ, zero, suc, ◌+◌, ◌<◌, Bool, true, false, cond, List, length, slice_index, slice_index_or}
use Rattle.parsing.specs.Grammar.{Grammar, Productive}
use Rattle.grammar.specs.Holding.{rule_at}
use Rattle.grammar.specs.declared.rule.Rule.{Rule}

abbrev pub marked : List Bool → ℕ → Bool
marked m X = slice_index_or m X false

abbrev pub Ready : List Bool → List ℕ → Type 0
Ready m xs = (d : ℕ) → d < length xs → marked m (slice_index xs d) ≡ true

abbrev pub Within : List Bool → List Bool → Type 0
Within m n = (X : ℕ) → marked m X ≡ true → marked n X ≡ true

abbrev pub Sound : Grammar → List Bool → Type 0
Sound g m = (X : ℕ) → marked m X ≡ true → Productive g X

abbrev pub Closed : List Rule → List Bool → ℕ → Type 0
Closed ps m n = (r : ℕ) → r < n → Ready m (rule_at ps r).right → marked m (rule_at ps r).left ≡ true

unfoldable pub unmarked : List Bool → ℕ → ℕ
unmarked m zero = 0
unmarked m (suc n) = cond (marked m n) 0 1 + unmarked m n
