-- The kinds of bytes, by what a byte of each kind is.
--   Marked b ..   what the byte b is: a blank, what opens a remark, what ends one, a digit
--   Kinded k b    the byte b is of the kind k
use Rattle.std.specs.Prelude.{◌≡◌, ℕ, Bool, true, false}
use Rattle.words.specs.Bytes.{is_blank, opens_remark, ends_remark, is_digit}
use Rattle.words.specs.declared.kind.Kind.{Kind}
use Rattle.words.specs.declared.kind.Kind.TheVariants.{Blank, LineFeed, Hash, Digit, Other}

-- The byte b is a blank, opens a remark, ends one, or is a digit, as these tell.
pub record Marked (b : ℕ) (blank opens ends digit : Bool) : Type 0 where
  pub blank_is : is_blank b ≡ blank
  pub opens_is : opens_remark b ≡ opens
  pub ends_is : ends_remark b ≡ ends
  pub digit_is : is_digit b ≡ digit

abbrev pub Kinded : Kind → ℕ → Type 0
Kinded Blank b = Marked b true false false false
Kinded LineFeed b = Marked b true false true false
Kinded Hash b = Marked b false true false false
Kinded Digit b = Marked b false false false true
Kinded Other b = Marked b false false false false
