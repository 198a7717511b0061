-- Moving the items of a row over a symbol.
use Rattle.std.proofs.Common.{◌≡◌, ℕ, suc, ◌+◌, ◌<◌, true, ◌↔◌, sym, ap, ◌∙◌, subst, inr, ⊎_elim, arith, below_more}
use Rattle.parsing.specs.Grammar.{Grammar}
use Rattle.parsing.specs.Items.{Next}
use Rattle.table_format.specs.ItemSets.{Items, Completed, Moved, Moves, StepTo}
use Rattle.rows.specs.Changes.{Adds, Sweeps}
use Rattle.rows.proofs.Completing.{completed_by}

module _ (g : Grammar) (v : Items) (X r : ℕ) (u : Items) where
  -- One item more that has X next: with X passed it is added.
  pub sweep_move : (m w : Items) (d : ℕ) → Sweeps g v X r u m d → v r d ≡ true → Next g r d X → Adds m r (d + 1) w → Sweeps g v X r u w (d + 1)
  sweep_move m w d s h n a =
      let e : suc d ≡ d + 1 = omega arith in
      record {
        kept = λ q f k. a.kept q f (s.kept q f k);
        sound = λ q f k. ⊎_elim (λ p. s.sound q f p) (λ p. inr (here q f p)) (a.only q f k);
        made = below_more _ d (λ dot l p y. a.kept r (suc dot) (s.made dot l p y)) (λ p y. ap (λ (z : ℕ). w r z) e ∙ a.added);
      }
    where
      here : (q f : ℕ) → (q ≡ r) × (f ≡ d + 1) → Moved g v X q f
      here q f p = record {
        dot = d;
        moved = omega (arith, p.1);
        before = ap (λ (z : ℕ). v z d) p.0 ∙ h;
        over = subst (λ (z : ℕ). Next g z d X) (sym p.0) n;
      }

  -- Any other is passed over.
  pub sweep_skip : (m : Items) (d : ℕ) → Sweeps g v X r u m d → (v r d ≡ true → Next g r d X → ⊥) → Sweeps g v X r u m (d + 1)
  sweep_skip m d s f = record { kept = s.kept; sound = s.sound; made = below_more _ d s.made (λ p y. absurd (f p y)) }

-- The items of the first n rules are moved, and nothing else is there.
pub record Swept (g : Grammar) (v : Items) (X : ℕ) (m : Items) (n : ℕ) : Type 0 where
  pub sound : (q e : ℕ) → m q e ≡ true → Moved g v X q e
  pub made : (q : ℕ) → q < n → (dot : ℕ) → v q dot ≡ true → Next g q dot X → m q (suc dot) ≡ true

module _ (g : Grammar) (v : Items) (X : ℕ) (m : Items) where
  pub step_row : (w : Items) → Moves g v X → ((r d : ℕ) → (m r d ≡ true) ↔ Moved g v X r d) → Completed g (λ r d. m r d ≡ true) w → StepTo g v X w
  step_row w a b c = record { moves = ∣ a ∣₁; row = completed_by g (λ r d. m r d ≡ true) (Moved g v X) w b c }
