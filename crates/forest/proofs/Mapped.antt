-- What a result says of the one whose error was mapped into its own.
use Rattle.std.proofs.Common.{◌≡◌, Result, Ok, Err, MatchResult}
use Rattle.std.specs.Result.{IsErrAnd}
use Rattle.std.proofs.lemmas.Result.{err_from_is_err_and}

module _ {T E D : Type 0} (Q : E → D → Type 0) where
  pub ok_before : (r : Result T E) (s : Result T D) (x : T) → MatchResult r (λ y. s ≡ Ok y) (λ e. IsErrAnd s (Q e)) → s ≡ Ok x → r ≡ Ok x
  ok_before (Ok y) s x h e = cc
  ok_before (Err q) s x h e = let (d, f, w) = err_from_is_err_and s h in cc

  pub err_before : (r : Result T E) (s : Result T D) (d : D) → MatchResult r (λ y. s ≡ Ok y) (λ e. IsErrAnd s (Q e)) → s ≡ Err d → (q : E) × (r ≡ Err q)
  err_before (Ok y) s d h e = cc
  err_before (Err q) s d h e = (q, cc)
