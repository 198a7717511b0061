-- The report of a table that is refused.
use Rattle.std.proofs.Common.{◌≡◌, ℕ, List, None, Option, refl, ap, ◌∙◌, subst, arith}
use Rattle.parsing.specs.Grammar.{Grammar as Rules}
use Rattle.grammar.specs.Meaning.{sheet}
use Rattle.grammar.specs.declared.refusal.Refusal.{Refusal}
use Rattle.grammar.specs.declared.grammar.Grammar.{Grammar}
use Rattle.grammar_format.specs.Sheets.{Sheet}
use Rattle.rows.specs.declared.row.Row.{Row}
use Rattle.states.specs.Refusals.{of_table, refusal}
use Rattle.states.specs.declared.fault.TableFault.{TableFault}
use Rattle.states.specs.declared.fault.TableFault.TheVariants.{WholeLength, CountRange, Offset, ByteRange, StepWhereNone, StepLacking}
use Rattle.states.specs.declared.fault.TableFault.TheVariants.{OtherRow, KnownRow, MarkWrong, NeverReached, TooManyStates, RoomShort}
use Rattle.tables.specs.declared.finding.Finding.{Finding}
use Rattle.table_explanation.specs.Explanations.{symbol_in, WantedOf}
use Rattle.table_explanation.specs.declared.explanation.TableExplanation.{TableExplanation}
use Rattle.table_inspection.specs.Reports.{explained, too_many_states}

numbers_differ : (n p q : ℕ) → (n ≡ 30 → ⊥) → of_table n p q ≡ of_table 30 0 0 → ⊥
numbers_differ n p q d e = d (ap (λ (r : Refusal). r.number) e)

-- The number of a refusal tells that there are too many states.
too_many : (f : TableFault) → refusal f ≡ of_table 30 0 0 → f ≡ TooManyStates
too_many WholeLength e = absurd (numbers_differ 20 0 0 (λ n. omega (arith, n)) e)
too_many CountRange e = absurd (numbers_differ 21 0 0 (λ n. omega (arith, n)) e)
too_many Offset e = absurd (numbers_differ 22 0 0 (λ n. omega (arith, n)) e)
too_many (ByteRange o) e = absurd (numbers_differ 23 o 0 (λ n. omega (arith, n)) e)
too_many (StepWhereNone t X) e = absurd (numbers_differ 24 t X (λ n. omega (arith, n)) e)
too_many (StepLacking t X) e = absurd (numbers_differ 25 t X (λ n. omega (arith, n)) e)
too_many (OtherRow t X) e = absurd (numbers_differ 26 t X (λ n. omega (arith, n)) e)
too_many (KnownRow t X) e = absurd (numbers_differ 27 t X (λ n. omega (arith, n)) e)
too_many (MarkWrong t r) e = absurd (numbers_differ 28 t r (λ n. omega (arith, n)) e)
too_many (NeverReached t) e = absurd (numbers_differ 29 t 0 (λ n. omega (arith, n)) e)
too_many TooManyStates e = refl
too_many (RoomShort n) e = absurd (numbers_differ 31 n 0 (λ m. omega (arith, m)) e)

-- An explanation speaks of what it was made of.
pub explains : (x : TableExplanation) (g : Grammar) (b : List ℕ) (e : Finding) → x.grammar.now ≡ g → x.sheet.now ≡ b → x.finding ≡ e
    → explained (sheet x.grammar.now) x.sheet.now x.finding x.wanted ≡ explained (sheet g) b e x.wanted
explains x g b e i j k =
    ap (λ (h : Grammar). explained (sheet h) x.sheet.now x.finding x.wanted) i
    ∙ ap (λ (y : List ℕ). explained (sheet g) y x.finding x.wanted) j
    ∙ ap (λ (z : Finding). explained (sheet g) b z x.wanted) k

pub too_many_text : (g : Rules) (s : Sheet) (b : List ℕ) (f : TableFault) (w : Option Row) → refusal f ≡ of_table 30 0 0
    → WantedOf g (symbol_in f) None w → explained s b (record { fault = f; row = None }) w ≡ explained s b too_many_states None
too_many_text g s b f w e h =
    let same = too_many f e in
    let none : w ≡ None = subst (λ k. WantedOf g (symbol_in k) None w) same h in
    ap (λ (k : TableFault). explained s b (record { fault = k; row = None }) w) same ∙ ap (λ (v : Option Row). explained s b too_many_states v) none
