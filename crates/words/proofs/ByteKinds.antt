-- What is known of bytes of some kinds.
use Rattle.std.proofs.Common.{◌≡◌, ℕ, false, ◌⊎◌, subst, inl, inr}
use Rattle.words.specs.Bytes.{is_blank, opens_remark, ends_remark}
use Rattle.words.specs.Kinds.{Kinded}
use Rattle.words.specs.declared.kind.Kind.{Kind}
use Rattle.words.specs.declared.kind.Kind.TheVariants.{Digit, Other}

-- A byte that stands in a run, where it is in no remark.
pub record WordByte (b : ℕ) : Type 0 where
  pub no_blank : is_blank b ≡ false
  pub no_hash : opens_remark b ≡ false
  pub no_end : ends_remark b ≡ false

module _ (k : Kind) (b : ℕ) (h : Kinded k b) where
  at_kind : (j : Kind) → k ≡ j → Kinded j b
  at_kind j e = subst (λ i. Kinded i b) e h

  pub word_kinds : (k ≡ Digit) ⊎ (k ≡ Other) → WordByte b
  word_kinds (inl e) = let a = at_kind Digit e in record { no_blank = a.blank_is; no_hash = a.opens_is; no_end = a.ends_is }
  word_kinds (inr e) = let a = at_kind Other e in record { no_blank = a.blank_is; no_hash = a.opens_is; no_end = a.ends_is }
