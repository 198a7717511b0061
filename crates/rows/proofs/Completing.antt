-- Completed rows: what stands when a pass over the rules adds nothing.
use Rattle.std.proofs.Common.{◌≡◌, ℕ, true, false, ◌↔◌, ap, ◌∙◌, ⊎_elim}
use mathlib.Core.Bool.{Bool-set}
use mathlib.Core.Logic.{∥∥₁_elim, ∥∥₁_map}
use Rattle.std.proofs.lemmas.Bool.{both_ways}
use Rattle.parsing.specs.Grammar.{Grammar, rule_count}
use Rattle.parsing.specs.Items.{Closure, kernel, predict, Initial}
use Rattle.table_format.specs.ItemSets.{Items, Completed, FirstRow}
use Rattle.rows.specs.Changes.{Within, Adds, Led, Predicts}

-- The closure of items in a closure is in it.
led_on : (g : Grammar) (u v : Items) → Led g u v → {r d : ℕ} → Closure g (λ x y. v x y ≡ true) r d → Closure g (λ x y. u x y ≡ true) r d
led_on g u v l (kernel {r = r} {d = d} i) = l r d i
led_on g u v l (predict q c h n) = predict q (led_on g u v l c) h n

pub led_through : (g : Grammar) (u v w : Items) → Led g u v → Led g v w → Led g u w
led_through g u v w a b r d k = led_on g u v a (b r d k)

-- A row that predicts its own rules and holds a kernel holds the closure of it.
holds_closure : (g : Grammar) (u w : Items) → Within u w → Predicts g w (rule_count g) → {r d : ℕ} → Closure g (λ x y. u x y ≡ true) r d → w r d ≡ true
holds_closure g u w a p (kernel {r = r} {d = d} i) = a r d i
holds_closure g u w a p (predict {r = r} {d = d} q c h n) = p q h r d (holds_closure g u w a p c) n

pub completed : (g : Grammar) (u w : Items) → Within u w → Led g u w → Predicts g w (rule_count g) → Completed g (λ x y. u x y ≡ true) w
completed g u w a l p r d = ((λ k. ∣ l r d k ∣₁), λ t. ∥∥₁_elim t (Bool-set (w r d) true) (holds_closure g u w a p))

-- Kernels of the same items have the same closure.
closure_by : {g : Grammar} {I J : ℕ → ℕ → Type 0} → ((r d : ℕ) → I r d → J r d) → {r d : ℕ} → Closure g I r d → Closure g J r d
closure_by f (kernel {r = r} {d = d} i) = kernel (f r d i)
closure_by f (predict q c h n) = predict q (closure_by f c) h n

pub completed_by : (g : Grammar) (I J : ℕ → ℕ → Type 0) (w : Items) → ((r d : ℕ) → I r d ↔ J r d) → Completed g I w → Completed g J w
completed_by g I J w f c r d = (
  (λ k. ∥∥₁_map ((c r d).0 k) (closure_by (λ x y. (f x y).0))),
  λ t. (c r d).1 (∥∥₁_map t (closure_by (λ x y. (f x y).1))),
)

-- The item (0, 0) alone, completed.
pub first_row : (g : Grammar) (z m w : Items) → ((r d : ℕ) → z r d ≡ false) → Adds z 0 0 m → Completed g (λ r d. m r d ≡ true) w → FirstRow g w
first_row g z m w h a c = completed_by g (λ r d. m r d ≡ true) Initial w (λ r d. (there r d, back r d)) c
  where
    there : (r d : ℕ) → m r d ≡ true → Initial r d
    there r d k = ⊎_elim (λ p. absurd (both_ways (z r d) (h r d) p)) (λ p. record { rule_zero = p.0; dot_zero = p.1 }) (a.only r d k)

    back : (r d : ℕ) → Initial r d → m r d ≡ true
    back r d i = ap (λ (x : ℕ). m x d) i.rule_zero ∙ ap (λ (y : ℕ). m 0 y) i.dot_zero ∙ a.added
