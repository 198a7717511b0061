-- Where the parts of a sheet stand, read off any bytes.
use Rattle.std.proofs.Common.{◌≡◌, ℕ, zero, suc, ◌+◌, ◌-◌, ◌*◌, ◌^◌, ◌<◌, min, List, [], length, take, drop, sym, ap, ◌∙◌, add-zero, add-suc, add-one, arith}
use native.Mathlib.Decide.{dec_le}
use Rattle.std.proofs.lemmas.List.{drop_all, take_all}
use Rattle.grammar_format.specs.Fields.{block, remains, behind_spelling}

-- An offset that is too large for a number of 64 bits lies past the end.
pub drop_cut : (xs : List ℕ) (n m : ℕ) → length xs < 2 ^ 64 → m ≡ min n (2 ^ 64 - 1) → drop m xs ≡ drop n xs
drop_cut xs n m l e =
    elim (dec_le n (2 ^ 64 - 1)) [
      | yes h ↦ let i : m ≡ n = omega arith in ap (λ k. drop k xs) i
      | no h ↦ drop_all m xs (omega arith) ∙ sym (drop_all n xs (omega arith))
    ]

-- The rules stand behind the header; what is past the end is left out.
pub block_cut : (b : List ℕ) (r m : ℕ) (rest : List ℕ) → length b < 2 ^ 64 → m ≡ min (12 + 9 * r) (2 ^ 64 - 1) → rest ≡ drop m b → take 9 rest ≡ block b r
unfolding block
block_cut b r m rest l e h = ap (take 9) (h ∙ drop_cut b (12 + 9 * r) m l e)

-- A part that is cut at the end is the whole.
pub take_cut : (xs : List ℕ) (n m : ℕ) → m ≡ min n (length xs) → take m xs ≡ take n xs
take_cut xs n m e =
    elim (dec_le n (length xs)) [
      | yes h ↦ let i : m ≡ n = omega arith in ap (λ k. take k xs) i
      | no h ↦ take_all m xs (omega arith) ∙ sym (take_all n xs (omega arith))
    ]

-- Once nothing remains, nothing remains.
pub remains_none : (b : List ℕ) (k t : ℕ) → remains b t ≡ [] → remains b (t + k) ≡ []
unfolding remains
remains_none b zero t e = ap (remains b) (add-zero t) ∙ e
remains_none b (suc k) t e = ap (remains b) (add-suc t k) ∙ ap behind_spelling (remains_none b k t e)

pub remains_more : (b : List ℕ) (t : ℕ) → behind_spelling (remains b t) ≡ remains b (t + 1)
unfolding remains
remains_more b t = ap (remains b) (sym (add-one t))
