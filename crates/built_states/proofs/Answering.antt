-- What a built source answers.
use Rattle.std.proofs.Common.{◌≡◌, ℕ, ◌<◌, ◌≤◌, Bool, true, false, cond, ◌&&◌, eqb, ltb, Some, None, Option, refl, sym, ap, ◌∙◌, arith}
use Rattle.std.proofs.lemmas.Bool.{le-ltb, lt-ltb}
use Rattle.parsing.specs.Grammar.{Grammar, rule_count}
use Rattle.table_format.specs.ItemSets.{Items, symbols}
use Rattle.table_format.specs.Tables.{Table, source_of}
use Rattle.built_states.specs.Built.{step_byte}

module _ (g : Grammar) (t : Table) (rows : ℕ → Items) where
  pub next_past_states : (s X : ℕ) → t.states ≤ s → None ≡ (source_of g t rows).next s X
  unfolding source_of
  next_past_states s X h = rw (le-ltb s t.states h)

  pub next_past_symbols : (s X : ℕ) → s < t.states → symbols g ≤ X → None ≡ (source_of g t rows).next s X
  unfolding source_of
  next_past_symbols s X h k = rw (lt-ltb s t.states h, le-ltb X (symbols g) k)

  pub next_none : (s X : ℕ) → s < t.states → X < symbols g → t.step s X ≡ 255 → None ≡ (source_of g t rows).next s X
  unfolding source_of
  next_none s X h k e = rw (lt-ltb s t.states h, lt-ltb X (symbols g) k, e)

  pub next_some : (s X : ℕ) → s < t.states → X < symbols g → t.step s X < 255 → Some (t.step s X) ≡ (source_of g t rows).next s X
  unfolding source_of
  next_some s X h k l = rw (lt-ltb s t.states h, lt-ltb X (symbols g) k, lt-ltb (t.step s X) 255 l)

  pub done_past : (s r : ℕ) → t.states ≤ s → false ≡ (source_of g t rows).done s r
  unfolding source_of
  done_past s r h = rw (le-ltb s t.states h)

  pub done_is : (s r : ℕ) (b : Bool) → s < t.states → t.mark s r ≡ cond b 1 0 → (ltb r (rule_count g) && b) ≡ (source_of g t rows).done s r
  unfolding source_of
  done_is s r b h e = rw (lt-ltb s t.states h, e) (ap (λ (c : Bool). ltb r (rule_count g) && c) (told b))
    where
      told : (c : Bool) → c ≡ eqb (cond c 1 0) 1
      told true = refl
      told false = refl

-- A step as it is kept.
pub next_is : (g : Grammar) (t : Table) (rows : ℕ → Items) (s X : ℕ) (o : Option ℕ) → s < t.states → X < symbols g → t.step s X ≡ step_byte o
    → ((u : ℕ) → o ≡ Some u → u < 255) → o ≡ (source_of g t rows).next s X
next_is g t rows s X None h k e f = next_none g t rows s X h k e
next_is g t rows s X (Some u) h k e f = ap Some (sym e) ∙ next_some g t rows s X h k (omega (arith, e, f u refl))
