-- The text of a rule, from the name of its left symbol and its right symbols one by one.
use Rattle.std.proofs.Common.{◌≡◌, ℕ, zero, suc, ◌+◌, ◌-◌, ◌<◌, ◌≤◌, ◌≢◌, List, [], ◌∷◌, ◌++◌, length, get_or, take, codes, sym, refl, ap, ◌∙◌, arith, zero-add, add-one}
use Rattle.std.specs.List.{flat_map}
use Rattle.std.proofs.lemmas.List.{take_more, take_all, flat_map_more}
use Rattle.std.proofs.lemmas.Bool.Decides.{nat_tests}
use Rattle.parsing.specs.Grammar.{rule_count, lhs, rhs}
use Rattle.grammar_format.specs.Sheets.{Sheet}
use Rattle.grammar.specs.Questions.{left_side, right_length, right_symbol}
use Rattle.inspection.specs.Names.{symbol_name}
use Rattle.inspection.specs.Pieces.{each}
use Rattle.inspection.specs.Rules.{behind_blank, right_text, right_piece, rule_text}

module _ (s : Sheet) (r : ℕ) (within : r < rule_count s.grammar) where
  symbol_at : (k : ℕ) → right_symbol s.grammar r k ≡ get_or (rhs s.grammar r) k 255
  symbol_at k = grind (arith, nat_tests)

  -- The first n pieces are the first n symbols.
  pieces : (n : ℕ) → n ≤ length (rhs s.grammar r) → each (right_piece s r) 0 n ≡ flat_map (behind_blank s) (take n (rhs s.grammar r))
  unfolding each
  pieces zero h = refl
  pieces (suc n) h =
      let e : right_symbol s.grammar r (0 + n) ≡ get_or (rhs s.grammar r) n 255 = rw (zero-add) (symbol_at n) in
      ap (λ t. t ++ right_piece s r (0 + n)) (pieces n (omega arith))
      ∙ ap (λ x. flat_map (behind_blank s) (take n (rhs s.grammar r)) ++ behind_blank s x) e
      ∙ flat_map_more (behind_blank s) [] (take n (rhs s.grammar r)) (get_or (rhs s.grammar r) n 255)
      ∙ ap (flat_map (behind_blank s)) (let k : n < length (rhs s.grammar r) = omega arith in sym (take_more (rhs s.grammar r) n 255 k) ∙ ap (λ m. take m (rhs s.grammar r)) (add-one n))

  right_all : (xs : List ℕ) → length xs ≢ 0 → flat_map (behind_blank s) (take (length xs) xs) ≡ right_text s xs
  unfolding right_text
  right_all [] h = absurd (h refl)
  right_all (x ∷ xs) h = ap (flat_map (behind_blank s)) (take_all (length (x ∷ xs)) (x ∷ xs) (omega arith))

  right_none : (xs : List ℕ) → length xs ≡ 0 → codes " (nothing)" ≡ right_text s xs
  unfolding right_text
  right_none [] h = refl
  right_none (x ∷ xs) h = absurd (omega arith)

  module _ (left : List ℕ) (n : ℕ) (called : left ≡ symbol_name s (left_side s.grammar r)) (counted : n ≡ right_length s.grammar r) where
    left_is : left ≡ symbol_name s (lhs s.grammar r)
    left_is = let e : left_side s.grammar r ≡ lhs s.grammar r = grind (arith, nat_tests) in called ∙ ap (symbol_name s) e

    count_is : n ≡ length (rhs s.grammar r)
    count_is = grind (arith, nat_tests)

    pub rule_is : n ≢ 0 → left ++ (codes " ->" ++ each (right_piece s r) 0 (n - 0)) ≡ rule_text s r
    rule_is h =
        let e : n - 0 ≡ length (rhs s.grammar r) = omega (arith, count_is) in
        let some : length (rhs s.grammar r) ≢ 0 = omega (arith, count_is) in
        ap (λ k. left ++ (codes " ->" ++ each (right_piece s r) 0 k)) e
        ∙ ap (λ t. left ++ (codes " ->" ++ t)) (pieces (length (rhs s.grammar r)) (omega arith) ∙ right_all (rhs s.grammar r) some)
        ∙ ap (λ t. t ++ (codes " ->" ++ right_text s (rhs s.grammar r))) left_is

    pub rule_is_nothing : n ≡ 0 → left ++ codes " -> (nothing)" ≡ rule_text s r
    rule_is_nothing h =
        let none : length (rhs s.grammar r) ≡ 0 = omega (arith, count_is) in
        ap (λ t. left ++ (codes " ->" ++ t)) (right_none (rhs s.grammar r) none)
        ∙ ap (λ t. t ++ (codes " ->" ++ right_text s (rhs s.grammar r))) left_is
