-- The theorems on grammar sheets.
use Rattle.std.specs.Prelude.{◌≡◌, ℕ, ◌<◌, ◌≤◌, List, length, slice_index}
use Rattle.grammar_format.specs.Sheets.{Sheet, sheet_bytes}
use Rattle.grammar_format.specs.Keeping.{Keeps}
use Rattle.grammar_format.specs.Fields.{sheet_of}
use Rattle.grammar_format.specs.Breaches.{Clean, First}

abbrev pub Bytes : List ℕ → Type 0
Bytes b = (k : ℕ) → slice_index b k < 256

-- Bytes to which no row of the table applies are the bytes of a sheet that keeps the rules: of the one read off them.
abbrev pub Sufficiency : Type 0
Sufficiency = (b : List ℕ) → Bytes b → Clean b 18 → Keeps (sheet_of b) × (sheet_bytes (sheet_of b) ≡ b)

-- To the bytes of a sheet that keeps the rules no row applies, and that sheet is the one read off them. They are bytes, at most 1,108.
abbrev pub Necessity : Type 0
Necessity =
    (s : Sheet) → Keeps s
    → Clean (sheet_bytes s) 18 × (sheet_of (sheet_bytes s) ≡ s) × Bytes (sheet_bytes s) × (length (sheet_bytes s) ≤ 1108)

-- At most one row at one place is the first that applies.
abbrev pub Uniqueness : Type 0
Uniqueness = (b : List ℕ) (m p n q : ℕ) → First b m p → First b n q → (m ≡ n) × (p ≡ q)
