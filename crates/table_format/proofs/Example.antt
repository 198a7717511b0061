-- The small sheet passes: its two states match the two item sets of the small grammar.
use Rattle.std.proofs.Common.{◌≡◌, ℕ, zero, suc, ◌<◌, true, ◌&&◌, eqb, sym, refl, ap, ◌∙◌, subst, inl, inr, arith}
use Rattle.std.proofs.lemmas.Bool.{and_parts, eqb-true, eq-eqb, and_from}
use Rattle.parsing.specs.Grammar.{rule, lhs, rhs}
use Rattle.parsing.specs.Items.{Next, Closure, kernel, predict}
use Rattle.grammar_format.specs.Fields.{listed}
use Rattle.table_format.specs.ItemSets.{Items, FirstRow, Moved, NoStep, StepTo, ItemSet, first, step, RightSides}
use Rattle.table_format.specs.Tables.{Table, RightStep, Matches, wanted_mark}
use Rattle.table_format.specs.Sheets.{grid, table_bytes}
use Rattle.table_format.specs.Walks.{passes}
use Rattle.table_format.specs.Breaches.{Checked}
use Rattle.table_format.specs.Example.{one, one_sheet}
use Rattle.table_format.proofs.Rows.{completed_one, completed_from, step_from, step_one, not_both}
use Rattle.table_format.proofs.Checks.{written_passes}

-- State s has the one item (0, s).
abbrev rows : ℕ → Items
rows s r d = eqb r 0 && eqb d s

in_row : {s r d : ℕ} → r ≡ 0 → d ≡ s → rows s r d ≡ true
in_row {s} {r} {d} e f = and_from (eqb r 0) (eqb d s) (eq-eqb r 0 e) (eq-eqb d s f)

row_in : (s r d : ℕ) → rows s r d ≡ true → (r ≡ 0) × (d ≡ s)
row_in s r d e = let (p, q) = and_parts (eqb r 0) (eqb d s) e in (eqb-true r 0 p, eqb-true d s q)

-- The terminal leads from state 0 to state 1.
abbrev to : ℕ → ℕ → ℕ
to zero zero = 1
to zero (suc X) = 255
to (suc s) X = 255

abbrev table : Table
table = record {
  states = 2;
  step = to;
  mark = λ s r. wanted_mark one (rows s) r;
}

-- Only the terminal comes next, in the item (0, 0).
comes : (r d X : ℕ) → Next one r d X → (r ≡ 0) × (d ≡ 0) × (X ≡ 0)
unfolding rhs rule
comes zero zero X n = (refl, refl, sym n.symbol)
comes zero (suc d) X n = absurd (omega (arith, n.dot_in))
comes (suc r) d X n = absurd (omega (arith, n.rule_in))

terminal_next : Next one 0 0 0
unfolding rhs rule
terminal_next = record { rule_in = omega arith; dot_in = omega arith; symbol = refl }

-- So nothing is predicted.
goal_left : (q : ℕ) → q < 1 → lhs one q ≡ 1
unfolding lhs rule
goal_left zero h = refl
goal_left (suc q) h = absurd (omega arith)

in_kernel : {I : ℕ → ℕ → Type 0} {r d : ℕ} → Closure one I r d → I r d
in_kernel (kernel i) = i
in_kernel (predict {r = r} {d = d} q c h n) = absurd (omega (arith, goal_left q h, (comes r d (lhs one q) n).2))

first_is : FirstRow one (rows 0)
first_is =
    completed_from (λ r d. (
      λ e. let (p, q) = row_in 0 r d e in kernel (record { rule_zero = p; dot_zero = q }),
      λ c. let i = in_kernel c in in_row i.rule_zero i.dot_zero,
    ))

step_is : StepTo one (rows 0) 0 (rows 1)
step_is =
    step_from (record { rule = 0; dot = 0; inside = refl; next = terminal_next }) (λ r d. (
      λ e. let (p, q) = row_in 1 r d e in moved p q,
      λ c.
          let i = in_kernel c in
          let (p, q) = row_in 0 r i.dot i.before in
          in_row p (omega (arith, i.moved)),
    ))
  where
    moved : {r d : ℕ} → r ≡ 0 → d ≡ 1 → Closure one (Moved one (rows 0) 0) r d
    moved e f = rw (e, f) (kernel (record { dot = 0; moved = refl; before = refl; over = terminal_next }))

no_step : (s X : ℕ) → (s ≡ 0 → X ≡ 0 → ⊥) → NoStep one (rows s) X
no_step s X f r d e n =
    let (p, q, x) = comes r d X n in
    f (sym (row_in s r d e).1 ∙ q) x

steps_are : (s X : ℕ) → s < 2 → X < 2 → RightStep one 2 rows (rows s) X (to s X)
steps_are zero zero h x = inr (omega arith, step_is)
steps_are zero (suc X) h x = inl (refl, no_step 0 (suc X) (λ e f. omega arith))
steps_are (suc s) X h x = inl (refl, no_step (suc s) X (λ e f. omega arith))

item_set : (s : ℕ) → s < 2 → ItemSet one (rows s)
item_set zero h = first first_is
item_set (suc zero) h = step 0 (first first_is) step_is
item_set (suc (suc s)) h = absurd (omega arith)

stepped : (s X : ℕ) {w : Items} → StepTo one (rows s) X w → rows 1 ≡ w
stepped zero zero st = step_one step_is st
stepped zero (suc X) st = absurd (not_both st (no_step 0 (suc X) (λ e f. omega arith)))
stepped (suc s) X st = absurd (not_both st (no_step (suc s) X (λ e f. omega arith)))

onto_is : {w : Items} → ItemSet one w → (s : ℕ) × (s < 2) × (rows s ≡ w)
onto_is (first f) = (0, omega arith, completed_one {g = one} first_is f)
onto_is (step {w = w} X i st) =
    let (s, h, e) = onto_is i in
    (1, omega arith, stepped s X (subst (λ v. StepTo one v X w) (sym e) st))

matches_one : Matches one table rows
matches_one = record {
  item_sets = λ s h. ∣ item_set s h ∣₁;
  one-to-one = λ s u h k e.
      (row_in u 0 s (sym (ap (λ w. w 0 s) e) ∙ in_row {s = s} refl refl)).1;
  onto = λ w. onto_is;
  zero_first = first_is;
  steps = steps_are;
  marks = λ s r h l. refl;
}

pub right_sides : RightSides one
unfolding rhs rule
right_sides zero zero h l = omega arith
right_sides zero (suc d) h l = absurd (omega arith)
right_sides (suc r) d h l = absurd (omega arith)

bytes_are : table_bytes one table ≡ one_sheet
unfolding table_bytes grid listed rhs rule
bytes_are = refl

pub one_passes : Checked one one_sheet passes
one_passes = subst (λ b. Checked one b passes) bytes_are (written_passes right_sides (omega arith) matches_one)
