-- Byte by byte over a text: how its runs go on.
use Rattle.std.proofs.Common.{◌≡◌, ℕ, ◌+◌, ◌<◌, Bool, true, false, cond, ◌||◌, not, ltb, List, ◌∷◌, length, get_or, drop, Some, None, Option, sym, refl, ap, ◌∙◌, inl, inr, arith}
use Rattle.std.specs.List.{position, position_or_len, prefix_len}
use Rattle.std.specs.Option.{unwrap_or}
use Rattle.std.proofs.lemmas.List.{at_drop_more, length-take}
use Rattle.std.proofs.lemmas.List.Recursion.{is_position_or_len}
use Rattle.std.proofs.lemmas.Bool.{cases_Bool, false≢true, ltb-false}
use Rattle.std.proofs.lemmas.List.Folds.{length-prefix_len}
use Rattle.words.specs.Bytes.{is_blank, opens_remark, ends_remark}
use Rattle.words.specs.Kinds.{Kinded}
use Rattle.words.specs.Runs.{Run, unremarked, front, begun}
use Rattle.words.specs.declared.kind.Kind.TheVariants.{Blank, LineFeed, Hash}
use Rattle.words.proofs.ByteKinds.{WordByte}

-- The runs that begin in the bytes from the place i on, where no run is open; o says whether they begin within a remark.
abbrev pub ahead : List ℕ → ℕ → Bool → List Run
ahead xs i o = begun i false (unremarked o (drop i xs))

-- What stands for the bytes of a remark.
pub space_blank : is_blank 32 ≡ true
unfolding is_blank
space_blank = refl

module _ (xs : List ℕ) (i : ℕ) (inside : i < length xs) where
  ahead_blank : is_blank (get_or xs i 0) ≡ true → opens_remark (get_or xs i 0) ≡ false → ahead xs i false ≡ ahead xs (i + 1) false
  ahead_blank e f = at_drop_more (λ ys. begun i false (unremarked false ys)) xs i 0 inside ∙ simp (f, e)

  ahead_opens : opens_remark (get_or xs i 0) ≡ true → ahead xs i false ≡ ahead xs (i + 1) true
  ahead_opens e = at_drop_more (λ ys. begun i false (unremarked false ys)) xs i 0 inside ∙ simp (e, space_blank)

  ahead_ends : is_blank (get_or xs i 0) ≡ true → ends_remark (get_or xs i 0) ≡ true → ahead xs i true ≡ ahead xs (i + 1) false
  ahead_ends e f = at_drop_more (λ ys. begun i false (unremarked true ys)) xs i 0 inside ∙ simp (f, e)

  ahead_within : ends_remark (get_or xs i 0) ≡ false → ahead xs i true ≡ ahead xs (i + 1) true
  ahead_within e = at_drop_more (λ ys. begun i false (unremarked true ys)) xs i 0 inside ∙ simp (e, space_blank)

  -- By the kind of the byte, within a remark or not.
  pub ahead_line_feed : (o : Bool) → Kinded LineFeed (get_or xs i 0) → ahead xs i o ≡ ahead xs (i + 1) false
  ahead_line_feed true k = ahead_ends k.blank_is k.ends_is
  ahead_line_feed false k = ahead_blank k.blank_is k.opens_is

  pub ahead_hash : (o : Bool) → Kinded Hash (get_or xs i 0) → ahead xs i o ≡ ahead xs (i + 1) true
  ahead_hash true k = ahead_within k.ends_is
  ahead_hash false k = ahead_opens k.opens_is

  pub ahead_space : (o : Bool) → Kinded Blank (get_or xs i 0) → ahead xs i o ≡ ahead xs (i + 1) o
  ahead_space true k = ahead_within k.ends_is
  ahead_space false k = ahead_blank k.blank_is k.opens_is

  pub ahead_word : (o : Bool) → o ≡ true → WordByte (get_or xs i 0) → ahead xs i o ≡ ahead xs (i + 1) o
  ahead_word true e k = ahead_within k.no_end
  ahead_word false e k = absurd (false≢true e)

-- How many bytes stand before the first blank or remark.
by_byte : (b : ℕ) (xs : List ℕ) → length (front (unremarked false (b ∷ xs))) ≡ cond (opens_remark b || is_blank b) 0 (1 + length (front (unremarked false xs)))
by_byte b xs =
    elim (cases_Bool (opens_remark b)) [
      | inl e ↦ simp (e, space_blank)
      | inr e ↦ elim (cases_Bool (is_blank b)) [ inl f ↦ simp (e, f) | inr f ↦ simp (e, f) (omega arith) ]
    ]

-- What ends a run.
abbrev pub ends : ℕ → Bool
ends b = opens_remark b || is_blank b

module _ (xs : List ℕ) where
  tested : (a : Bool) → ltb (position_or_len ends xs) (length xs) ≡ a → unwrap_or (cond a (Some (position_or_len ends xs)) None) (length xs) ≡ position_or_len ends xs
  tested true e = refl
  tested false e = omega (arith, ltb-false (position_or_len ends xs) (length xs) e, length-prefix_len (λ b. not (ends b)) xs, length-take (prefix_len (λ b. not (ends b)) xs) xs)

  pub front_found : (o : Option ℕ) → o ≡ position ends xs → unwrap_or o (length xs) ≡ length (front (unremarked false xs))
  front_found o e =
      ap (λ x. unwrap_or x (length xs)) e ∙ tested (ltb (position_or_len ends xs) (length xs)) refl
      ∙ sym (is_position_or_len (λ ys. length (front (unremarked false ys))) ends refl by_byte xs)
