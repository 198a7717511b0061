-- The runs of a text, by the places of its bytes.
--   InRemark xs k    the byte at k stands in a remark: at a `#` or behind it, with no line feed from there on
--   Solid xs k       the byte at k is one of a word: it is there, is no blank, and stands in no remark
--   Stretch xs p q   an unbroken row of such bytes, from p up to q, that goes on neither before p nor at q
--   Among rs p q     one of the runs rs stands from p up to q
--   Splitting        the theorem that the runs of a text are exactly its stretches
use Rattle.std.specs.Prelude.{◌≡◌, ℕ, ◌+◌, ◌<◌, ◌≤◌, true, false, ◌⊎◌, List, [], ◌∷◌, length, slice_index}
use Rattle.words.specs.Bytes.{is_blank, opens_remark, ends_remark}
use Rattle.words.specs.Runs.{Run, run_end, runs}

pub record InRemark (xs : List ℕ) (k : ℕ) : Type 0 where
  pub hash : ℕ
  pub before : hash ≤ k
  pub opens : opens_remark (slice_index xs hash) ≡ true
  pub lasts : (l : ℕ) → hash ≤ l → l ≤ k → ends_remark (slice_index xs l) ≡ false

pub record Solid (xs : List ℕ) (k : ℕ) : Type 0 where
  pub there : k < length xs
  pub no_blank : is_blank (slice_index xs k) ≡ false
  pub no_remark : InRemark xs k → ⊥

pub record Stretch (xs : List ℕ) (p q : ℕ) : Type 0 where
  pub some : p < q
  pub solid : (k : ℕ) → p ≤ k → k < q → Solid xs k
  pub begins : (k : ℕ) → k + 1 ≡ p → Solid xs k → ⊥
  pub ends : Solid xs q → ⊥

abbrev pub Among : List Run → ℕ → ℕ → Type 0
Among [] p q = ⊥
Among (r ∷ rs) p q = ((r.from ≡ p) × (run_end r ≡ q)) ⊎ Among rs p q

abbrev pub Splitting : Type 0
Splitting = (xs : List ℕ) (p q : ℕ) → (Among (runs 0 xs) p q → Stretch xs p q) × (Stretch xs p q → Among (runs 0 xs) p q)
