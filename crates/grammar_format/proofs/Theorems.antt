-- The theorems, as they are stated.
use Rattle.std.proofs.Common.{sym, inl, inr}
use Rattle.std.proofs.lemmas.Bool.{cases_order}
use Rattle.grammar_format.specs.Statements.{Sufficiency, Necessity, Uniqueness}
use Rattle.grammar_format.proofs.Encoding.{sheet_bytes_of}
use Rattle.grammar_format.proofs.Keeps.{sheet_keeps}
use Rattle.grammar_format.proofs.Decoding.{clean_bytes, sheet_of_bytes}
use Rattle.grammar_format.proofs.Sizes.{sheet_bytes_below, sheet_bytes_few}

pub sufficiency : Sufficiency
sufficiency b s c = (sheet_keeps c, sheet_bytes_of c s)

pub necessity : Necessity
necessity s k = (clean_bytes k, sheet_of_bytes k, sheet_bytes_below k, sheet_bytes_few k)

-- Of two that differ, one comes before the other, and the other is then not the first.
pub uniqueness : Uniqueness
uniqueness b m p n q x y =
    elim (cases_order m n) [
      | inl e ↦
          elim (cases_order p q) [
            | inl f ↦ (e, f)
            | inr (inl l) ↦ absurd (y.before m p (inr (e, l)) x.applies)
            | inr (inr l) ↦ absurd (x.before n q (inr (sym e, l)) y.applies)
          ]
      | inr (inl l) ↦ absurd (y.before m p (inl l) x.applies)
      | inr (inr l) ↦ absurd (x.before n q (inl l) y.applies)
    ]
