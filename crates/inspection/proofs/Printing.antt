-- Text that is written where a test holds.
use Rattle.std.proofs.Common.{◌≡◌, ℕ, Bool, true, false, cond, List, [], ◌++◌, Some, None, Result, refl}
use borrow.Author.Tests.{both_ways}
use Rattle.std.specs.declared.fmt.Error.{Error}
use Rattle.std.specs.declared.fmt.Formatter.{Formatter}
use Rattle.std.specs.Fmt.{IsPlainFormatter, HasWritten, WritesOnOk, DisplaysOnOk, option_append}
use Rattle.std.proofs.Output.{writes_in_calls_nil, has_written_of_eq}

module _ {W : Type 0} (took : W → List ℕ → W → Type 0) where
  pub put_none : (f : Formatter W) → IsPlainFormatter f → HasWritten took f [] f
  put_none f p = record { wrote = writes_in_calls_nil took f.writer; plain = p }

  pub shows_if : (f g : Formatter W) (r : Result (Unit {0}) Error) (b : Bool) (bs : List ℕ)
      → (b ≡ true → WritesOnOk took f r bs g) → DisplaysOnOk took f r (cond b (Some bs) None) g
  shows_if f g r true bs h = h refl
  shows_if f g r false bs h = tt

  pub prints_if : (f g : Formatter W) (r : Result (Unit {0}) Error) (b : Bool) (bs ds : List ℕ)
      → b ≡ true → DisplaysOnOk took f r (option_append (cond b (Some bs) None) (Some ds)) g → WritesOnOk took f r (bs ++ ds) g
  prints_if f g r true bs ds e h = h
  prints_if f g r false bs ds e h = absurd (both_ways false refl e)

  -- Where the text is shown, it stands behind two others.
  pub shows_behind : (f g : Formatter W) (r : Result (Unit {0}) Error) (b : Bool) (first second shown whole : List ℕ) → first ++ (second ++ shown) ≡ whole
      → DisplaysOnOk took f r (option_append (Some first) (option_append (Some second) (cond b (Some shown) None))) g
      → DisplaysOnOk took f r (cond b (Some whole) None) g
  shows_behind f g r true first second shown whole e h = λ plain ok. has_written_of_eq took f (first ++ (second ++ shown)) whole g e (h plain ok)
  shows_behind f g r false first second shown whole e h = tt
