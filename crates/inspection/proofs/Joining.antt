-- Pieces that are written one after another.
use Rattle.std.proofs.Common.{◌≡◌, ℕ, suc, ◌+◌, ◌-◌, ◌≤◌, List, [], ◌++◌, sym, refl, ap, ◌∙◌, arith}
use Rattle.std.specs.declared.fmt.Formatter.{Formatter}
use Rattle.std.specs.Fmt.{IsPlainFormatter, HasWritten}
use Rattle.std.proofs.Output.{has_written_append, has_written_of_eq}
use Rattle.inspection.proofs.Printing.{put_none}
use Rattle.inspection.specs.Pieces.{each}

none : (F : ℕ → List ℕ) (low n : ℕ) → n ≡ 0 → [] ≡ each F low n
unfolding each
none F low n e = rw e refl

more : (F : ℕ → List ℕ) (low n : ℕ) → each F low n ++ F (low + n) ≡ each F low (suc n)
unfolding each
more F low n = refl

next : (F : ℕ → List ℕ) (low k : ℕ) → low ≤ k → each F low (k - low) ++ F k ≡ each F low (k + 1 - low)
next F low k h =
    let e : low + (k - low) ≡ k = omega arith in
    let n : suc (k - low) ≡ k + 1 - low = omega arith in
    ap (λ x. each F low (k - low) ++ F x) (sym e) ∙ more F low (k - low) ∙ ap (each F low) n

module _ {W : Type 0} (took : W → List ℕ → W → Type 0) (F : ℕ → List ℕ) (low : ℕ) where
  pub each_none : (f : Formatter W) → IsPlainFormatter f → HasWritten took f (each F low (low - low)) f
  each_none f p = has_written_of_eq took f [] _ f (none F low (low - low) (omega arith)) (put_none took f p)

  pub each_more : (f m l : Formatter W) (k : ℕ) → low ≤ k → HasWritten took f (each F low (k - low)) m → HasWritten took m (F k) l
      → HasWritten took f (each F low (k + 1 - low)) l
  each_more f m l k h before now = has_written_of_eq took f _ _ l (next F low k h) (has_written_append took f _ m _ l before now)

  pub each_all : (f l : Formatter W) (j n : ℕ) → j - low ≡ n → HasWritten took f (each F low (j - low)) l → HasWritten took f (each F low n) l
  each_all f l j n e = has_written_of_eq took f _ _ l (ap (each F low) e)
