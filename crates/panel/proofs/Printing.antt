-- Pieces that are written one after another, and the cuts that are used.
use Rattle.std.proofs.Common.{◌≡◌, ℕ, ◌-◌, ltb, Bool, true, false, cond, List, ◌==◌, length, take, Some, None, Option, refl, ap, ◌∙◌, arith, ltb-false}
use Rattle.std.specs.List.{take_while, position, position_or_len}
use Rattle.std.specs.Option.{unwrap_or}
use Rattle.std.proofs.lemmas.List.Sums.{prefix_len-le-length}
use Rattle.panel.specs.Lines.{is_used}

abbrev pub is_blank : ℕ → Bool
is_blank c = c == 255

-- The cuts before the first that is not used.
module _ (cs : List ℕ) where
  first_blank : (a : Bool) → ltb (position_or_len is_blank cs) (length cs) ≡ a → unwrap_or (cond a (Some (position_or_len is_blank cs)) None) (length cs) ≡ position_or_len is_blank cs
  first_blank true e = refl
  first_blank false e = omega (arith, ltb-false (position_or_len is_blank cs) (length cs) e, prefix_len-le-length is_used cs)

  pub used_found : (o : Option ℕ) (n : ℕ) → o ≡ position is_blank cs → n ≡ unwrap_or o (length cs) → take (n - 0) cs ≡ take_while is_used cs
  used_found o n e f =
      let found : n ≡ position_or_len is_blank cs = f ∙ ap (λ x. unwrap_or x (length cs)) e ∙ first_blank (ltb (position_or_len is_blank cs) (length cs)) refl in
      let k : n - 0 ≡ position_or_len is_blank cs = omega (arith, found) in
      ap (λ x. take x cs) k
