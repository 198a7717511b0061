-- Spellings and their bytes.
use Rattle.std.proofs.Common.{◌≡◌, ℕ, suc, ◌+◌, ◌<◌, List, [], ◌∷◌, ◌++◌, length, get_or, drop, refl, add-one, arith, take-append-drop, length-take-le, take_at, drop_at}
use Rattle.grammar_format.specs.Sheets.{spelling_bytes, rules_end}
use Rattle.grammar_format.specs.Fields.{rules, first_spelling, behind_spelling, remains, spelling}

-- Bytes whose first spelling is not cut are that spelling and what is behind it.
pub first_behind : (x : List ℕ) → get_or x 0 0 < length x → spelling_bytes (first_spelling x) ++ behind_spelling x ≡ x
first_behind [] h = absurd (omega arith)
first_behind (n ∷ x) h = rw (length-take-le n x (omega arith), take-append-drop n x) refl

-- A spelling's bytes, and bytes behind them.
pub first_bytes : (w q : List ℕ) → first_spelling (spelling_bytes w ++ q) ≡ w
first_bytes w q = take_at w q (length w) refl

pub behind_bytes : (w q : List ℕ) → behind_spelling (spelling_bytes w ++ q) ≡ q
behind_bytes w q = drop_at w q (length w) refl

-- What remains, one spelling after another.
pub remains_none : (b : List ℕ) → remains b 0 ≡ drop (rules_end (rules b)) b
unfolding remains
remains_none b = refl

pub remains_more : (b : List ℕ) (t : ℕ) → remains b (t + 1) ≡ behind_spelling (remains b t)
unfolding remains
remains_more b t = rw add-one refl

pub spelling_first : (b : List ℕ) (t : ℕ) → spelling b t ≡ first_spelling (remains b t)
unfolding spelling
spelling_first b t = refl

pub remains_drop : (b : List ℕ) (t : ℕ) → get_or (remains b t) 0 0 < length (remains b t)
    → spelling_bytes (spelling b t) ++ remains b (suc t) ≡ remains b t
unfolding remains spelling
remains_drop b t h = first_behind (remains b t) h
