-- The runs of a text: the unbroken rows of bytes that stand in no remark and are no blanks.
--   unremarked o xs   the bytes xs with a blank for each byte of a remark; o says whether they begin within one
--   front xs          the bytes of xs before the first blank
--   Run               a run: the place from which it stands, and its bytes
--   run_end r         the place up to which it stands
--   begun i o xs      the runs that begin in the bytes xs, which stand from the place i on; o says whether a run is open there
--   runs i xs         the runs of the bytes xs, which stand from the place i on
use Rattle.std.specs.Prelude.{ℕ, ◌+◌, Bool, true, false, cond, List, [], ◌∷◌, length}
use Rattle.words.specs.Bytes.{is_blank, opens_remark, ends_remark}

-- A remark goes from its `#` up to the line feed or the end.
abbrev pub unremarked : Bool → List ℕ → List ℕ
unremarked o [] = []
unremarked false (b ∷ xs) = cond (opens_remark b) (32 ∷ unremarked true xs) (b ∷ unremarked false xs)
unremarked true (b ∷ xs) = cond (ends_remark b) (b ∷ unremarked false xs) (32 ∷ unremarked true xs)

abbrev pub front : List ℕ → List ℕ
front [] = []
front (b ∷ xs) = cond (is_blank b) [] (b ∷ front xs)

pub record Run : Type 0 where
  pub from : ℕ
  pub bytes : List ℕ

abbrev pub run_end : Run → ℕ
run_end r = r.from + length r.bytes

-- A run begins at a byte that is no blank and has none of the kind before it, and goes on up to the next blank.
abbrev pub begun : ℕ → Bool → List ℕ → List Run
begun i o [] = []
begun i o (b ∷ xs) =
    cond (is_blank b) (begun (i + 1) false xs)
    (cond o (begun (i + 1) true xs) (record { from = i; bytes = front (b ∷ xs) } ∷ begun (i + 1) true xs))

abbrev pub runs : ℕ → List ℕ → List Run
runs i xs = begun i false (unremarked false xs)
