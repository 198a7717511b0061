-- The rows of a lawful source: what a state holds, and how it was entered.
use Rattle.std.proofs.Common.{◌≡◌, ℕ, suc, ◌<◌, true, ◌∷◌, length, get_or, drop, Some, None, Option, sym, refl, ap, ◌∙◌, arith, drop-cons}
use mathlib.Core.Bool.{Bool-discrete}
use mathlib.Core.Logic.Dec
use native.Mathlib.Decide.{ℕ_discrete}
use Rattle.parsing.specs.Grammar.{Grammar, rule_count, rhs, start, WellFormed}
use Rattle.parsing.specs.Items.{Next, Closure, kernel, predict, Source, In, Lawful}
use Rattle.parsing.proofs.Search.{some_below?}

-- What is behind the dot of an item with X next: X, and what is behind the dot moved over X.
pub next_drop : {g : Grammar} {r d X : ℕ} → Next g r d X → drop d (rhs g r) ≡ X ∷ drop (suc d) (rhs g r)
next_drop {g} {r} {d} {X} n = drop-cons (rhs g r) d 0 n.dot_in ∙ ap (λ Y. Y ∷ drop (suc d) (rhs g r)) n.symbol

-- An item of a closure with its dot moved is in the kernel.
pub in_kernel : {g : Grammar} {I : ℕ → ℕ → Type 0} {r d e : ℕ} → d ≡ suc e → Closure g I r d → I r d
in_kernel m (kernel i) = i
in_kernel m (predict q c h n) = absurd (omega arith)

-- The start symbol comes next in the first item.
pub start_next : {g : Grammar} → WellFormed g → Next g 0 0 (start g)
start_next wf = record { rule_in = omega (arith, wf.two_rules); dot_in = omega (arith, wf.goal_right); symbol = refl }

-- An answer is not the lack of one.
pub some_not_none : {s : ℕ} → Some s ≡ None → ⊥
some_not_none e = let z : ◌≡◌ {A = ℕ} 0 1 = cc in omega arith

module _ {src : Source} (law : Lawful src) where
  -- A step that some item of b can make has an answer.
  pub next_some : {b r d X : ℕ} → b < src.states → In src b r d → Next src.grammar r d X
      → (s : ℕ) × (src.next b X ≡ Some s)
  next_some {b} {r} {d} {X} h i n = go (src.next b X) refl
    where
      go : (o : Option ℕ) → src.next b X ≡ o → (s : ℕ) × (src.next b X ≡ Some s)
      go None e = absurd ((law.next_none b X h).0 e r d i n)
      go (Some s) e = (s, e)

  -- The step keeps the item, with its dot moved.
  pub step_in : {b r d X s : ℕ} → b < src.states → src.next b X ≡ Some s → In src b r d → Next src.grammar r d X
      → In src s r (suc d)
  step_in {b} {r} {d} {X} {s} h e i n =
      (law.next_row b X s h e r (suc d)).1 (kernel (record { dot = d; moved = refl; before = i; over = n }))

  -- An item with its dot moved came from the state below, where the symbol that was stepped over came next.
  pub step_back : {b r d X s : ℕ} → b < src.states → src.next b X ≡ Some s → In src s r (suc d)
      → In src b r d × Next src.grammar r d X
  step_back {b} {r} {d} {X} {s} h e i =
      let k = in_kernel refl ((law.next_row b X s h e r (suc d)).0 i) in
      let m : k.dot ≡ d = omega (arith, k.moved) in
      (rw m at k.before, rw m at k.over)

  -- A step that has an answer is made by some item: the items are finitely many, so one that makes it is found.
  pub next_item : {b X s : ℕ} → b < src.states → src.next b X ≡ Some s
      → (r : ℕ) × (d : ℕ) × In src b r d × Next src.grammar r d X
  next_item {b} {X} {s} h e =
      elim (some_below? _ made_by (rule_count src.grammar)) [
        | yes x ↦
            let (r, p, y) = x in
            let (d, q, z) = y in
            (r, d, z.0, record { rule_in = p; dot_in = q; symbol = z.1 })
        | no none ↦
            let empty = (law.next_none b X h).1 (λ r d i n. none (r, n.rule_in, (d, n.dot_in, (i, n.symbol)))) in
            absurd (some_not_none (sym e ∙ empty))
      ]
    where
      made_by : (r : ℕ)
          → Dec ((d : ℕ) × (d < length (rhs src.grammar r)) × (In src b r d × (get_or (rhs src.grammar r) d 0 ≡ X)))
      made_by r =
          some_below? _ (λ d. Dec.and (Bool-discrete (src.has b r d) true) (ℕ_discrete (get_or (rhs src.grammar r) d 0) X))
          (length (rhs src.grammar r))

  -- A state is entered by one symbol only: the one behind which its kernel has the dots.
  pub entering : {b c X Y s : ℕ} → b < src.states → c < src.states → src.next b X ≡ Some s → src.next c Y ≡ Some s → X ≡ Y
  entering hb hc eb ec =
      let (r, d, i, x) = next_item hb eb in
      sym x.symbol ∙ (step_back hc ec (step_in hb eb i x)).1.symbol

  -- The first item is in the first state.
  pub initial_in : In src src.first 0 0
  initial_in = (law.first_row 0 0).1 (kernel (record { rule_zero = refl; dot_zero = refl }))
