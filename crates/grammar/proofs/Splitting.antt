-- The bytes of a spelling, and the sheet behind it.
use Rattle.std.proofs.Common.{◌≡◌, ℕ, ◌+◌, ◌-◌, ◌<◌, ◌≤◌, List, length, get_or, take, drop, sym, ap, ◌∙◌, subst, add-one, arith}
use Rattle.std.proofs.lemmas.List.{take_rest}
use Rattle.grammar_format.specs.Sheets.{rules_end}
use Rattle.grammar_format.specs.Fields.{terminals, rules, remains, spelling, first_spelling, behind_spelling}
use Rattle.grammar_format.proofs.Cleaning.{row_15, well_spelled}
use Rattle.grammar_format.specs.Breaches.{IllSpelled, Breach, cut, spelling_form, left_over}

-- The spellings begin behind the rules.
pub remains_first : (b : List ℕ) (n : ℕ) → n ≡ rules_end (rules b) → take (length b - n) (drop n b) ≡ remains b 0
unfolding remains
remains_first b n e = take_rest b n ∙ ap (λ (k : ℕ). drop k b) e

-- What a reading of one spelling says of the terminal t, where z is the sheet that remains and w the spelling read.
module _ (b : List ℕ) (t : ℕ) (z w : List ℕ) (e : z ≡ remains b t) (f : w ≡ first_spelling z) where
  pub spelled_is : w ≡ spelling b t
  unfolding spelling
  spelled_is = f ∙ ap first_spelling e

  pub misspelled : t < terminals b → IllSpelled t w → Breach b 15 t
  misspelled h i = spelling_form h (subst (IllSpelled t) spelled_is i)

  pub well_read : t < terminals b → get_or z 0 0 < length z → (IllSpelled t w → ⊥) → Breach b 15 t → ⊥
  well_read h l n =
      row_15 b t
      (λ k. (subst (λ (y : List ℕ). get_or y 0 0 < length y) e l, well_spelled t (spelling b t) (λ i. n (subst (IllSpelled t) (sym spelled_is) i))))
      (λ k. absurd (omega arith))

pub cut_here : (b : List ℕ) (t : ℕ) (z : List ℕ) → z ≡ remains b t → t < terminals b → length z ≤ get_or z 0 0 → Breach b 15 t
cut_here b t z e h l = cut h (subst (λ (y : List ℕ). length y ≤ get_or y 0 0) e l)

pub rest_is : (b : List ℕ) (t : ℕ) (z y : List ℕ) → z ≡ remains b t → y ≡ behind_spelling z → y ≡ remains b (t + 1)
unfolding remains
rest_is b t z y e f = rw add-one (f ∙ ap behind_spelling e)

-- Behind the last spelling: bytes are left over, or none are.
pub over_here : (b : List ℕ) (t : ℕ) (z : List ℕ) → t ≡ terminals b → z ≡ remains b t → 0 < length z → Breach b 15 t
over_here b t z n e h =
    subst (Breach b 15) (sym n)
    (left_over (subst (λ (k : ℕ). 0 < length (remains b k)) n (subst (λ (y : List ℕ). 0 < length y) e h)))

pub none_over : (b : List ℕ) (t : ℕ) (z : List ℕ) → t ≡ terminals b → z ≡ remains b t → length z ≡ 0
    → (q : ℕ) → t ≤ q → Breach b 15 q → ⊥
none_over b t z n e h q l (cut k i) = omega arith
none_over b t z n e h q l (spelling_form k i) = omega arith
none_over b t z n e h q l (left_over i) =
    omega (arith, subst (λ (k : ℕ). length (remains b k) ≡ 0) n (subst (λ (y : List ℕ). length y ≡ 0) e h))
