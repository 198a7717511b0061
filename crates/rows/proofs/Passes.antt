-- A pass over the rules that adds first items: what it has done before each rule.
use Rattle.std.proofs.Common.{◌≡◌, ℕ, zero, suc, ◌+◌, ◌<◌, ◌≤◌, Bool, true, false, cond, ◌⊎◌, MatchBool, sym, refl, ap, ◌∙◌, subst, inl, inr, arith, below_more}
use native.Mathlib.Decide.{ℕ_discrete}
use Rattle.parsing.specs.Grammar.{Grammar, rule_count, lhs}
use Rattle.parsing.specs.Items.{Next, Closure, kernel, predict}
use Rattle.table_format.specs.ItemSets.{Items, Moves, NoStep}
use Rattle.rows.specs.Changes.{Within, Adds, Nexts, Led, Predicts, missing}

-- What one rule adds to the number of those whose first item is missing.
abbrev lack : Bool → ℕ
lack b = cond b 0 1

lack_less : (a b : Bool) → (a ≡ true → b ≡ true) → lack b ≤ lack a
lack_less true b f = let e : lack b ≡ 0 = ap lack (f refl) in omega arith
lack_less false true f = omega arith
lack_less false false f = omega arith

-- A row that has more items misses no more.
missing_less : (v w : Items) → Within v w → (n : ℕ) → missing w n ≤ missing v n
unfolding missing
missing_less v w f zero = omega arith
missing_less v w f (suc n) = omega (arith, missing_less v w f n, lack_less (v n 0) (w n 0) (f n 0))

-- It misses fewer where it has the first item of a further rule.
missing_falls : (v w : Items) → Within v w → (q : ℕ) → v q 0 ≡ false → w q 0 ≡ true → (n : ℕ) → q < n → missing w n < missing v n
unfolding missing
missing_falls v w f q a b zero l = absurd (omega arith)
missing_falls v w f q a b (suc n) l =
    elim (ℕ_discrete n q) [
      | yes e ↦
          let new : lack (w n 0) ≡ 0 = ap lack (ap (λ (k : ℕ). w k 0) e ∙ b) in
          let old : lack (v n 0) ≡ 1 = ap lack (ap (λ (k : ℕ). v k 0) e ∙ a) in
          omega (arith, missing_less v w f n)
      | no k ↦ omega (arith, missing_falls v w f q a b n (omega arith), lack_less (v n 0) (w n 0) (f n 0))
    ]

-- A pass that began with the row u comes to the rule q with the row v and the symbols S that come next in it; b says whether an item
-- was added.
pub record Turn (g : Grammar) (u v : Items) (S : ℕ → Bool) (b : Bool) (q : ℕ) : Type 0 where
  pub next : Nexts g v S
  pub within : Within u v
  pub led : Led g u v
  pub cases : MatchBool b (missing v 64 < missing u 64) (Predicts g v q)

pub first_turn : (g : Grammar) (u : Items) (S : ℕ → Bool) → Nexts g u S → Turn g u u S false 0
first_turn g u S n = record { next = n; within = λ r d k. k; led = λ r d k. kernel k; cases = λ q h. absurd (omega arith) }

-- (q, 0) is in the closure where the left symbol of q comes next in an item that is.
led_more : (g : Grammar) (u v w : Items) (q : ℕ) → Led g u v → Adds v q 0 w → q < rule_count g → Moves g v (lhs g q) → Led g u w
led_more g u v w q l a h m r d k =
    elim (a.only r d k) [
      | inl p ↦ l r d p
      | inr p ↦
          let I : ℕ → ℕ → Type 0 = λ x y. u x y ≡ true in
          subst (λ (x : ℕ). Closure g I x d) (sym p.0)
          (subst (λ (y : ℕ). Closure g I q y) (sym p.1) (predict q (l m.rule m.dot m.inside) h m.next))
    ]

-- The first item of q is added.
pub added_turn : (g : Grammar) (u v w : Items) (S T : ℕ → Bool) (b : Bool) (q : ℕ) → q < 64 → q < rule_count g → Turn g u v S b q → v q 0 ≡ false
    → Moves g v (lhs g q) → Adds v q 0 w → Nexts g w T → Turn g u w T true (q + 1)
added_turn g u v w S T b q l h t out m a n = record {
  next = n;
  within = λ r d k. a.kept r d (t.within r d k);
  led = led_more g u v w q t.led a h m;
  cases = omega (arith, missing_falls v w a.kept q out a.added 64 l, missing_less u v t.within 64);
}

-- Nothing is added for q: its first item is there, or its left symbol comes next in no item.
pub idle_turn : (g : Grammar) (u v : Items) (S : ℕ → Bool) (b : Bool) (q : ℕ) → Turn g u v S b q → (v q 0 ≡ true) ⊎ NoStep g v (lhs g q)
    → Turn g u v S b (q + 1)
idle_turn g u v S b q t here = record { next = t.next; within = t.within; led = t.led; cases = more b t.cases }
  where
    there : (v q 0 ≡ true) ⊎ NoStep g v (lhs g q) → (r d : ℕ) → v r d ≡ true → Next g r d (lhs g q) → v q 0 ≡ true
    there (inl e) r d k n = e
    there (inr f) r d k n = absurd (f r d k n)

    more : (b : Bool) → MatchBool b (missing v 64 < missing u 64) (Predicts g v q) → MatchBool b (missing v 64 < missing u 64) (Predicts g v (q + 1))
    more true k = k
    more false k = below_more _ q k (there here)
