-- What a grammar's answers tell of its sheet: its spellings are text, and its first rule has the start symbol on the right.
use Rattle.std.proofs.Common.{◌≡◌, ℕ, ◌<◌, ◌≤◌, ◌≢◌, List, length, get_or, Some, None, IsUtf8, IsAscii, ◌∙◌, arith}
use mathlib.Core.Logic.{∥∥₁_elim}
use mathlib.Core.List.{is_set}
use native.Mathlib.Decide.{dec_lt}
use native.Mathlib.Nat.{ℕ_set}
use Rattle.std.proofs.lemmas.List.{get_or_past, get_or_default}
use Rattle.std.proofs.lemmas.Str.{IsUtf8-from_ascii}
use Rattle.std.proofs.lemmas.Bool.Decides.{nat_tests}
use Rattle.parsing.specs.Grammar.{rhs, start}
use Rattle.grammar_format.specs.Sheets.{Sheet}
use Rattle.grammar_format.specs.Keeping.{Keeps, Spelled, spelling_of}
use Rattle.grammar.specs.Meaning.{sheet, meaning}
use Rattle.grammar.specs.Questions.{right_symbol, spelled}
use Rattle.grammar.specs.declared.grammar.Grammar.{Grammar}

pub spelled_some : (s : Sheet) (t : ℕ) (w : List ℕ) → Some w ≡ spelled s t → (t < s.grammar.terminals) × (w ≡ spelling_of s t)
spelled_some s t w e = (grind (arith, nat_tests), grind (arith, nat_tests))

pub spelled_none : (s : Sheet) (t : ℕ) → None ≡ spelled s t → s.grammar.terminals ≤ t
spelled_none s t e = grind (arith, nat_tests)

spelled_ascii : (w : List ℕ) → Spelled w → IsAscii w
spelled_ascii w p i =
    elim (dec_lt i (length w)) [
      | yes l ↦ let h = (p.letters i l).high in omega arith
      | no l ↦ let h = get_or_past w i 0 (omega arith) in omega arith
    ]

text_of : (s : Sheet) (t : ℕ) → Keeps s → t ≢ 0 → t < s.grammar.terminals → IsUtf8 (spelling_of s t)
text_of s t k n l = IsUtf8-from_ascii (spelling_of s t) (spelled_ascii (spelling_of s t) (k.spelled t (omega arith) l))

-- What is shown of each spelling that is text is shown of the grammar's spellings.
pub text_kept : (g : Grammar) (t : ℕ) (w shown : List ℕ) → t ≢ 0 → t < (meaning g).terminals → w ≡ spelling_of (sheet g) t
    → (IsUtf8 w → shown ≡ w) → shown ≡ spelling_of (sheet g) t
text_kept g t w shown n l e f =
    ∥∥₁_elim g.held (is_set ℕ_set shown (spelling_of (sheet g) t)) (λ h. let p = text_of (sheet g) t h.kept n l in f (rw e p) ∙ e)

first_right : (s : Sheet) → Keeps s → right_symbol s.grammar 0 0 ≡ start s.grammar
first_right s k =
    let few = k.well_formed.two_rules in
    let one = k.well_formed.goal_right in
    let e : get_or (rhs s.grammar 0) 0 255 ≡ get_or (rhs s.grammar 0) 0 0 = get_or_default (rhs s.grammar 0) 0 255 0 (omega arith) in
    grind (arith, nat_tests)

pub start_kept : (g : Grammar) → right_symbol (meaning g) 0 0 ≡ start (meaning g)
start_kept g = ∥∥₁_elim g.held (ℕ_set (right_symbol (meaning g) 0 0) (start (meaning g))) (λ h. first_right (sheet g) h.kept)
