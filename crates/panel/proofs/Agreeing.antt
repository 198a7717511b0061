-- A grammar sheet, a table sheet and some words come to one outcome.
use Rattle.std.proofs.Common.{◌≡◌, ℕ, ◌≤◌, Bool, true, false, List, eqb, length, sym, refl, ap, ◌∙◌, ap₂, subst, arith}
use Rattle.parsing.specs.Grammar.{Grammar}
use Rattle.grammar.specs.declared.refusal.Layer.{Layer}
use Rattle.grammar.specs.declared.refusal.Layer.TheVariants.{Grammar as OfGrammar, Table as OfTable}
use Rattle.grammar.specs.declared.refusal.Refusal.{Refusal}
use Rattle.grammar.specs.declared.fault.GrammarFault.{GrammarFault}
use Rattle.grammar.specs.declared.fault.GrammarFault.TheVariants.{WholeLength, CountRange, Offset, RuleForm, GoalRule}
use Rattle.grammar.specs.declared.fault.GrammarFault.TheVariants.{SpellingForm, SpellingRepeated, Unproductive, RoomShort}
use Rattle.grammar.specs.Refusals.{Refused as RefusedGrammar, refusal as of_grammar}
use Rattle.grammar_format.specs.Keeping.{Keeps}
use Rattle.grammar_format.specs.Sheets.{Sheet, sheet_bytes}
use Rattle.grammar_format.specs.Fields.{sheet_of}
use Rattle.grammar_format.proofs.Theorems.{necessity, uniqueness}
use Rattle.states.specs.Refusals.{of_table, refusal, outcome}
use Rattle.states.specs.declared.fault.TableFault.{TableFault}
use Rattle.states.specs.declared.fault.TableFault.TheVariants as Faults
use Rattle.table_format.specs.ItemSets.{RightSides}
use Rattle.table_format.specs.Walks.{refuses}
use Rattle.table_format.proofs.Once.{source_one}
use Rattle.table_format.proofs.Theorems.{sheet_determinacy}
use Rattle.tables.specs.Faults.{Refused as RefusedTable}
use Rattle.built_states.proofs.Growing.{not_many}
use Rattle.built_states.proofs.OneWay.{one_building}
use Rattle.words.specs.Feeds.{Coming}
use Rattle.panel.specs.Lines.{Outcome, refused, lines}
use Rattle.panel.specs.Outcomes.{Answered, ByTable, built, too_many, supplied, table_refused, Refuses, long_grammar, long_table, long_words, grammar_refused}
use Rattle.panel.specs.Outcomes.{Comes, not_read, read, Shows, OneOfText, OneOfRecord}
use Rattle.panel.proofs.Deciding.{one_outcome}

-- A sheet that keeps the rules is read off its bytes.
sheet_one : {s t : Sheet} → Keeps s → Keeps t → sheet_bytes s ≡ sheet_bytes t → s ≡ t
sheet_one {s} {t} k l e = sym (necessity s k).1 ∙ ap sheet_of e ∙ (necessity t l).1

-- The refusal of a grammar sheet is told by its number and its first place.
abbrev layer_by : Bool → Layer
layer_by true = OfTable
layer_by false = OfGrammar

abbrev told : ℕ → ℕ → Refusal
told n p = record { number = n; layer = layer_by (eqb n 31); first = p; second = 0 }

grammar_told : (f : GrammarFault) → of_grammar f ≡ told (of_grammar f).number (of_grammar f).first
grammar_told WholeLength = refl
grammar_told CountRange = refl
grammar_told Offset = refl
grammar_told (RuleForm r) = refl
grammar_told (GoalRule r) = refl
grammar_told (SpellingForm t) = refl
grammar_told (SpellingRepeated t) = refl
grammar_told (Unproductive X) = refl
grammar_told (RoomShort n) = refl

grammar_one : {a : List ℕ} {f h : GrammarFault} → RefusedGrammar a f → RefusedGrammar a h → of_grammar f ≡ of_grammar h
grammar_one {a} {f} {h} x y =
    let e = uniqueness a _ _ _ _ x.first y.first in
    grammar_told f ∙ ap₂ told e.0 e.1 ∙ sym (grammar_told h)

-- That of a table sheet by its number and both places.
table_told : (f : TableFault) → refusal f ≡ of_table (refusal f).number (refusal f).first (refusal f).second
table_told Faults.WholeLength = refl
table_told Faults.CountRange = refl
table_told Faults.Offset = refl
table_told (Faults.ByteRange o) = refl
table_told (Faults.StepWhereNone s X) = refl
table_told (Faults.StepLacking s X) = refl
table_told (Faults.OtherRow s X) = refl
table_told (Faults.KnownRow s X) = refl
table_told (Faults.MarkWrong s r) = refl
table_told (Faults.NeverReached s) = refl
table_told Faults.TooManyStates = refl
table_told (Faults.RoomShort n) = refl

same_refuses : (m p r n q s : ℕ) → refuses m p r ≡ refuses n q s → of_table m p r ≡ of_table n q s
same_refuses m p r n q s e =
    let d : m ≡ n = cc in
    let f : p ≡ q = cc in
    let h : r ≡ s = cc in
    λ i. of_table (d i) (f i) (h i)

table_one : {g : Grammar} {b : List ℕ} {f h : TableFault} → RefusedTable g b f → RefusedTable g b h → refusal f ≡ refusal h
table_one {g} {b} {f} {h} x y =
    table_told f
    ∙ same_refuses _ _ _ _ _ _ (sheet_determinacy g b (outcome f) (outcome h) x.checked y.checked)
    ∙ sym (table_told h)

-- By a grammar and a table sheet.
module _ {g : Grammar} (rs : RightSides g) {b : List ℕ} {c : Coming} where
  by_table_one : {o p : Outcome} → ByTable g b c o → ByTable g b c p → o ≡ p
  by_table_one (built n ws ss o e x a) (built m vs us p f y d) =
      one_outcome _ c _ _ (subst (λ src. Answered src c o) (one_building g n m ws vs ss us rs x y) a) d
  by_table_one (built n ws ss o e x a) (too_many f y) = absurd (not_many x y)
  by_table_one (built n ws ss o e x a) (supplied rows p f k l m d) = absurd (f e)
  by_table_one (built n ws ss o e x a) (table_refused f k l) = absurd (k e)
  by_table_one (too_many e x) (built m vs us p f y d) = absurd (not_many y x)
  by_table_one (too_many e x) (too_many f y) = refl
  by_table_one (too_many e x) (supplied rows p f k l m d) = absurd (f e)
  by_table_one (too_many e x) (table_refused f k l) = absurd (k e)
  by_table_one (supplied rows o e h j m a) (built n ws ss p f y d) = absurd (e f)
  by_table_one (supplied rows o e h j m a) (too_many f y) = absurd (e f)
  by_table_one (supplied rows o e h j m a) (supplied others p f k l n d) =
      one_outcome _ c _ _ (subst (λ src. Answered src c o) (source_one rs m n) a) d
  by_table_one (supplied rows o e h j m a) (table_refused f k l) = absurd (l.never (j, ∣ (rows, m) ∣₁))
  by_table_one (table_refused f e x) (built n ws ss p k y d) = absurd (e k)
  by_table_one (table_refused f e x) (too_many k y) = absurd (e k)
  by_table_one (table_refused f e x) (supplied rows p k l j m d) = absurd (x.never (j, ∣ (rows, m) ∣₁))
  by_table_one (table_refused f e x) (table_refused h k y) = ap refused (table_one x y)

-- By two sheets.
module _ {a b xs : List ℕ} where
  refuses_one : {o p : Outcome} → Refuses a b xs o → Refuses a b xs p → o ≡ p
  refuses_one (long_grammar x) (long_grammar y) = refl
  refuses_one (long_grammar x) (long_table k y) = absurd (omega arith)
  refuses_one (long_grammar x) (long_words k l y) = absurd (omega arith)
  refuses_one (long_grammar x) (grammar_refused f s y) = absurd (omega (arith, s.grammar))
  refuses_one (long_table h x) (long_grammar y) = absurd (omega arith)
  refuses_one (long_table h x) (long_table k y) = refl
  refuses_one (long_table h x) (long_words k l y) = absurd (omega arith)
  refuses_one (long_table h x) (grammar_refused f s y) = absurd (omega (arith, s.table))
  refuses_one (long_words h j x) (long_grammar y) = absurd (omega arith)
  refuses_one (long_words h j x) (long_table k y) = absurd (omega arith)
  refuses_one (long_words h j x) (long_words k l y) = refl
  refuses_one (long_words h j x) (grammar_refused f s y) = absurd (omega (arith, s.words))
  refuses_one (grammar_refused f s x) (long_grammar y) = absurd (omega (arith, s.grammar))
  refuses_one (grammar_refused f s x) (long_table k y) = absurd (omega (arith, s.table))
  refuses_one (grammar_refused f s x) (long_words k l y) = absurd (omega (arith, s.words))
  refuses_one (grammar_refused f s x) (grammar_refused h t y) = ap refused (grammar_one x y)

  refused_not_read : {o : Outcome} {s : Sheet} → Refuses a b xs o → length a ≤ 40000 → length b ≤ 40000 → length xs ≤ 40000
      → Keeps s → sheet_bytes s ≡ a → ⊥
  refused_not_read (long_grammar x) h j l k e = omega arith
  refused_not_read (long_table y x) h j l k e = omega arith
  refused_not_read (long_words y z x) h j l k e = omega arith
  refused_not_read {s = s} (grammar_refused f d x) h j l k e = x.never s k e

  comes_one : (f : Sheet → Coming) {o p : Outcome} → Comes f a b xs o → Comes f a b xs p → o ≡ p
  comes_one f (not_read x) (not_read y) = refuses_one x y
  comes_one f (not_read x) (read s h k e y) = absurd (refused_not_read x h.grammar h.table h.words k e)
  comes_one f (read s h k e x) (not_read y) = absurd (refused_not_read y h.grammar h.table h.words k e)
  comes_one f {o} {p} (read s h k e x) (read t j l d y) =
      by_table_one k.well_formed.right_in x
      (subst (λ z. ByTable z.grammar b (f z) p) (sheet_one l k (d ∙ sym e)) y)

shown_one : {P : Outcome → Type 0} → ((o p : Outcome) → P o → P p → o ≡ p) → (text other : List ℕ) → Shows P text → Shows P other → text ≡ other
shown_one one text other x y = x.text_is ∙ ap lines (one x.outcome y.outcome x.so y.so) ∙ sym y.text_is

pub one_of_text : OneOfText
one_of_text a b xs = let one = λ (o p : Outcome). comes_one _ {o = o} {p = p} in (one, shown_one one)

pub one_of_record : OneOfRecord
one_of_record a b xs = let one = λ (o p : Outcome). comes_one _ {o = o} {p = p} in (one, shown_one one)
