-- Where coming words stand, and what they can be.
--   part xs p q        the bytes of xs from the place p up to the place q
--   part_of xs p q     the same, and none where xs has no such part
--   Spot n i p q       the places p and q lie within n bytes, at i or behind it, and p is below q
--   InOrder n i ws x   the words ws, and then the refusal x if there is one, stand one behind the other within n bytes, from the place i on
--   Sound T w          the terminal of w is below T; its amount has at most five digits, and is 0 unless the terminal is 0
--   Orderly T n c      what is coming as c is sound and stands in order within n bytes
use Rattle.std.specs.Prelude.{◌≡◌, ℕ, ◌-◌, ◌<◌, ◌≤◌, cond, ◌&&◌, List, [], ◌∷◌, length, take, drop, Some, None, Option, nat_le}
use Rattle.std.specs.List.{AllByRecursion}
use Rattle.grammar.specs.declared.refusal.Refusal.{Refusal}
use Rattle.words.specs.Feeds.{Coming}
use Rattle.words.specs.declared.word.Word.{Word}

abbrev pub part : List ℕ → ℕ → ℕ → List ℕ
part xs p q = take (q - p) (drop p xs)

abbrev pub part_of : List ℕ → ℕ → ℕ → Option (List ℕ)
part_of xs p q = cond (nat_le p q && nat_le q (length xs)) (Some (part xs p q)) None

pub record Spot (n i p q : ℕ) : Type 0 where
  pub behind : i ≤ p
  pub some : p < q
  pub within : q ≤ n

abbrev pub InOrder : ℕ → ℕ → List Word → Option Refusal → Type 0
InOrder n i [] None = Unit {0}
InOrder n i [] (Some x) = Spot n i x.first x.second
InOrder n i (w ∷ ws) x = Spot n i w.from w.to × InOrder n w.to ws x

pub record Sound (T : ℕ) (w : Word) : Type 0 where
  pub known : w.terminal < T
  pub plain : 0 < w.terminal → w.amount ≡ 0
  pub small : w.amount < 100000

pub record Orderly (T n : ℕ) (c : Coming) : Type 0 where
  pub sound : AllByRecursion (Sound T) c.words
  pub placed : InOrder n 0 c.words c.fault
