-- The first press of a record.
--   amount_of xs   the press of an amount key with the bytes xs behind it
--   press_of xs    the press that the bytes xs begin with
use Rattle.std.specs.Prelude.{ℕ, cond, List, [], ◌∷◌, ◌==◌}
use Rattle.words.specs.declared.press.Press.{Press}
use Rattle.words.specs.declared.press.Press.TheVariants.{Amount, Cut, End, Key}

abbrev pub amount_of : List ℕ → Press
amount_of [] = Cut
amount_of (h ∷ []) = Cut
amount_of (h ∷ (l ∷ xs)) = Amount h l

abbrev pub press_of : List ℕ → Press
press_of [] = End
press_of (t ∷ xs) = cond (t == 255) End (cond (t == 0) (amount_of xs) (Key t))
