-- An item that is merely in the closure of a kernel that can be tested is found there, by the number of predictions that lead to it.
use Rattle.std.proofs.Common.{◌≡◌, ℕ, zero, suc, ◌<◌, true, ◌⊎◌, length, get_or, refl, subst, inl, inr, arith}
use mathlib.Core.Bool.{Bool-discrete}
use mathlib.Core.HLevel.{¬_prop, Π_prop, ×_prop, Σ_prop_path}
use mathlib.Core.Logic.Dec
use mathlib.Core.Logic.{∥∥₁_elim, ∥∥₁_map}
use native.Mathlib.Decide.{ℕ_discrete, dec_lt}
use Rattle.std.proofs.lemmas.Bool.{cases_order}
use Rattle.parsing.specs.Grammar.{Grammar, rule_count, lhs, rhs}
use Rattle.parsing.specs.Items.{Next, Closure, kernel, predict, Initial, Source, Step}
use Rattle.parsing.proofs.Search.{some_below?}
use Rattle.table_format.specs.ItemSets.{Items, Moved}

-- A number that merely passes a test is found: the lowest is the only one of its kind.
module _ (P : ℕ → Type 0) (test : (n : ℕ) → Dec (P n)) where
  abbrev Lowest : Type 0
  Lowest = (n : ℕ) × ((¬ ¬ (P n)) × ((m : ℕ) → m < n → ¬ (P m)))

  lowest_prop : IsProp Lowest
  lowest_prop u v =
      Σ_prop_path (λ n. ×_prop ¬_prop (Π_prop (λ m. Π_prop (λ h. ¬_prop))))
      (elim (cases_order u.0 v.0) [
        | inl e ↦ e
        | inr (inl h) ↦ absurd (u.1.0 (v.1.1 u.0 h))
        | inr (inr h) ↦ absurd (v.1.0 (u.1.1 v.0 h))
      ])

  look : (n : ℕ) → Lowest ⊎ ((m : ℕ) → m < n → ¬ (P m))
  look zero = inr (λ m h. absurd (omega arith))
  look (suc n) = go (look n) (test n)
    where
      go : Lowest ⊎ ((m : ℕ) → m < n → ¬ (P m)) → Dec (P n) → Lowest ⊎ ((m : ℕ) → m < suc n → ¬ (P m))
      go (inl l) d = inl l
      go (inr f) (yes p) = inl (n, (λ k. k p, f))
      go (inr f) (no k) = inr (λ m h p. elim (ℕ_discrete m n) [ yes e ↦ k (subst P e p) | no e ↦ f m (omega arith) p ])

  lowest : (n : ℕ) → P n → Lowest
  lowest n p = elim (look (suc n)) [ inl l ↦ l | inr f ↦ absurd (f n (omega arith) p) ]

  found : ∥ ((n : ℕ) × P n) ∥₁ → (n : ℕ) × P n
  found x =
      let l = ∥∥₁_elim x lowest_prop (λ y. lowest y.0 y.1) in
      elim (test l.0) [ yes p ↦ (l.0, p) | no k ↦ absurd (l.1.0 k) ]

either? : {A B : Type 0} → Dec A → Dec B → Dec (A ⊎ B)
either? (yes a) d = yes (inl a)
either? (no n) (yes b) = yes (inr b)
either? (no n) (no m) = no (λ x. elim x [ inl a ↦ n a | inr b ↦ m b ])

module _ (g : Grammar) (I : ℕ → ℕ → Type 0) where
  -- Some item that W holds has the symbol X next.
  abbrev Leads : (ℕ → ℕ → Type 0) → ℕ → Type 0
  Leads W X = (r : ℕ) × (r < rule_count g) × ((d : ℕ) × (d < length (rhs g r)) × (W r d × (get_or (rhs g r) d 0 ≡ X)))

  -- At most n predictions lead to the item.
  abbrev Within : ℕ → ℕ → ℕ → Type 0
  Within zero q d = I q d
  Within (suc n) q d = Within n q d ⊎ ((d ≡ 0) × ((q < rule_count g) × Leads (Within n) (lhs g q)))

  within : {r d : ℕ} → Closure g I r d → (n : ℕ) × Within n r d
  within (kernel i) = (0, i)
  within (predict {r = r} {d = d} q c h n) =
      let (m, w) = within c in
      (suc m, inr (refl, (h, (r, n.rule_in, (d, n.dot_in, (w, n.symbol))))))

  closure : (n : ℕ) {r d : ℕ} → Within n r d → Closure g I r d
  closure zero i = kernel i
  closure (suc n) (inl w) = closure n w
  closure (suc n) {r = q} (inr (e, (h, (r, l, (d, k, (w, s)))))) =
      rw e (predict {r = r} {d = d} q (closure n w) h (record { rule_in = l; dot_in = k; symbol = s }))

  module _ (test : (r d : ℕ) → Dec (I r d)) where
    within? : (n r d : ℕ) → Dec (Within n r d)
    within? zero r d = test r d
    within? (suc n) q d =
        either? (within? n q d)
        (Dec.and (ℕ_discrete d 0)
        (Dec.and (dec_lt q (rule_count g))
        (some_below? _ (λ r. some_below? _ (λ d. Dec.and (within? n r d) (ℕ_discrete (get_or (rhs g r) d 0) (lhs g q))) (length (rhs g r))) (rule_count g))))

    pub in_closure : (r d : ℕ) → ∥ Closure g I r d ∥₁ → Closure g I r d
    in_closure r d c =
        let (n, w) = found (λ n. Within n r d) (λ n. within? n r d) (∥∥₁_map c within) in
        closure n w

-- The kernels of rows can be tested.
pub initial? : (r d : ℕ) → Dec (Initial r d)
initial? r d =
    elim (Dec.and (ℕ_discrete r 0) (ℕ_discrete d 0)) [
      | yes x ↦ yes (record { rule_zero = x.0; dot_zero = x.1 })
      | no n ↦ no (λ i. n (i.rule_zero, i.dot_zero))
    ]

next? : (g : Grammar) (r d X : ℕ) → Dec (Next g r d X)
next? g r d X =
    elim (Dec.and (dec_lt r (rule_count g)) (Dec.and (dec_lt d (length (rhs g r))) (ℕ_discrete (get_or (rhs g r) d 0) X))) [
      | yes x ↦ yes (record { rule_in = x.0; dot_in = x.1.0; symbol = x.1.1 })
      | no n ↦ no (λ i. n (i.rule_in, (i.dot_in, i.symbol)))
    ]

pub moved? : (g : Grammar) (v : Items) (X r d : ℕ) → Dec (Moved g v X r d)
moved? g v X r zero = no (λ m. omega (arith, m.moved))
moved? g v X r (suc d) =
    elim (Dec.and (Bool-discrete (v r d) true) (next? g r d X)) [
      | yes x ↦ yes (record { dot = d; moved = refl; before = x.0; over = x.1 })
      | no n ↦ no (λ m.
          let e : m.dot ≡ d = omega (arith, m.moved) in
          n (rw e at m.before, rw e at m.over))
    ]

-- The kernel of a step of a source is that of a step of its row.
pub step_moved : {src : Source} {b X r d : ℕ} → Step src b X r d → Moved src.grammar (src.has b) X r d
step_moved m = record { dot = m.dot; moved = m.moved; before = m.before; over = m.over }

pub moved_step : {src : Source} {b X r d : ℕ} → Moved src.grammar (src.has b) X r d → Step src b X r d
moved_step m = record { dot = m.dot; moved = m.moved; before = m.before; over = m.over }

pub step? : (src : Source) (b X r d : ℕ) → Dec (Step src b X r d)
step? src b X r d =
    elim (moved? src.grammar (src.has b) X r d) [
      | yes m ↦ yes (moved_step m)
      | no n ↦ no (λ s. n (step_moved s))
    ]

-- Kernels with the same items have the same closure.
pub closure_by : {g : Grammar} {I J : ℕ → ℕ → Type 0} → ((r d : ℕ) → I r d → J r d) → {r d : ℕ} → Closure g I r d → Closure g J r d
closure_by f (kernel {r = r} {d = d} i) = kernel (f r d i)
closure_by f (predict q c h n) = predict q (closure_by f c) h n
