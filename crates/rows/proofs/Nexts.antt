-- The symbols that come next in the items of a row: gathered, and kept as an item is added.
use Rattle.std.proofs.Common.{◌≡◌, ℕ, ◌+◌, ◌<◌, ◌≤◌, Bool, true, false, ◌⊎◌, length, MatchBool, sym, refl, ap, ◌∙◌, subst, inl, inr, ⊎_elim, arith, below_more}
use Rattle.std.proofs.lemmas.Bool.{both_ways, cases_lt}
use Rattle.std.proofs.lemmas.Bool.Decides.{when_true, when_false}
use Rattle.parsing.specs.Grammar.{Grammar, rule_count, rhs}
use Rattle.parsing.specs.Items.{Next}
use Rattle.table_format.specs.ItemSets.{Items, Moves, NoStep}
use Rattle.grammar.specs.Meaning.{meaning}
use Rattle.grammar.specs.Questions.{right_symbol}
use Rattle.grammar.specs.declared.grammar.Grammar.{Grammar as Kept}
use Rattle.rows.specs.Changes.{Adds, Joins, Nexts, Gathers}
use Rattle.rows.proofs.Grammars.{right_next, right_below, right_past}

module _ (g : Grammar) (v : Items) (r : ℕ) (S : ℕ → Bool) where
  -- One item more: the symbol that comes next in it joins.
  pub gather_join : (M T : ℕ → Bool) (d x : ℕ) → Gathers g v r S M d → v r d ≡ true → Next g r d x → x < 64 → Joins M x T → Gathers g v r S T (d + 1)
  gather_join M T d x s h n l j = record {
    kept = λ X k. j.kept X (s.kept X k);
    sound = λ X k. ⊎_elim (λ p. s.sound X p) (λ p. inr (here X p.0)) (j.only X k);
    made = below_more _ d (λ dot k X p y. j.kept X (s.made dot k X p y)) (λ X p y. ap T (sym y.symbol ∙ n.symbol) ∙ j.added l);
  }
    where
      here : (X : ℕ) → X ≡ x → Moves g v X
      here X e = record { rule = r; dot = d; inside = h; next = subst (λ (y : ℕ). Next g r d y) (sym e) n }

  -- An item that is not in the row changes nothing.
  pub gather_skip : (M : ℕ → Bool) (d : ℕ) → Gathers g v r S M d → v r d ≡ false → Gathers g v r S M (d + 1)
  gather_skip M d s h = record {
    kept = s.kept;
    sound = s.sound;
    made = below_more _ d s.made (λ X p y. absurd (both_ways (v r d) h p));
  }

-- The symbols of the first n rules are gathered, and no others.
pub record Gathered (g : Grammar) (v : Items) (S : ℕ → Bool) (n : ℕ) : Type 0 where
  pub sound : (X : ℕ) → S X ≡ true → Moves g v X
  pub made : (q : ℕ) → q < n → (dot X : ℕ) → v q dot ≡ true → Next g q dot X → S X ≡ true

-- What the symbols that come next tell.
module _ (g : Grammar) (v : Items) (S : ℕ → Bool) (X : ℕ) (n : Nexts g v S) where
  pub told_next : S X ≡ true → Moves g v X
  told_next e = when_true (Moves g v X) (NoStep g v X) e (n X)

  pub told_none : S X ≡ false → NoStep g v X
  told_none e = when_false (Moves g v X) (NoStep g v X) e (n X)

-- An item (q, 0) more: T has the symbols of S, and the one that comes next in that item.
module _ (g : Grammar) (v w : Items) (S T : ℕ → Bool) (q : ℕ) (n : Nexts g v S) (a : Adds v q 0 w) where
  nexts_when : ((X : ℕ) → S X ≡ true → T X ≡ true) → ((X : ℕ) → T X ≡ true → (S X ≡ true) ⊎ Next g q 0 X) → ((X : ℕ) → Next g q 0 X → T X ≡ true)
      → Nexts g w T
  nexts_when kept only here X = tell (T X) refl
    where
      old : Moves g v X → Moves g w X
      old m = record { rule = m.rule; dot = m.dot; inside = a.kept m.rule m.dot m.inside; next = m.next }

      before : (b : Bool) → S X ≡ b → (r d : ℕ) → v r d ≡ true → Next g r d X → T X ≡ true
      before true e r d k y = kept X e
      before false e r d k y = absurd (told_none g v S X n e r d k y)

      found : (r d : ℕ) → w r d ≡ true → Next g r d X → T X ≡ true
      found r d k y =
          elim (a.only r d k) [
            | inl p ↦ before (S X) refl r d p y
            | inr p ↦ here X (subst (λ (x : ℕ). Next g x 0 X) p.0 (subst (λ (z : ℕ). Next g r z X) p.1 y))
          ]

      tell : (b : Bool) → T X ≡ b → MatchBool b (Moves g w X) (NoStep g w X)
      tell true e = ⊎_elim (λ p. old (told_next g v S X n p)) (λ y. record { rule = q; dot = 0; inside = a.added; next = y }) (only X e)
      tell false e = λ r d k y. both_ways (T X) e (found r d k y)

  nexts_some : (x : ℕ) → Next g q 0 x → x < 64 → Joins S x T → Nexts g w T
  nexts_some x y l j =
      nexts_when j.kept (λ X k. ⊎_elim (λ p. inl p) (λ p. inr (subst (λ (z : ℕ). Next g q 0 z) (sym p.0) y)) (j.only X k))
      (λ X z. ap T (sym z.symbol ∙ y.symbol) ∙ j.added l)

  nexts_none : (x : ℕ) → length (rhs g q) ≡ 0 → 64 ≤ x → Joins S x T → Nexts g w T
  nexts_none x e l j =
      nexts_when j.kept (λ X k. ⊎_elim (λ p. inl p) (λ p. absurd (omega (arith, p.0, p.1))) (j.only X k))
      (λ X z. absurd (omega (arith, z.dot_in)))

-- The same of a grammar that is asked for the first right symbol of q, which is 255 where there is none.
pub nexts_more : (k : Kept) (v w : Items) (S T : ℕ → Bool) (q x : ℕ) → q < rule_count (meaning k) → Nexts (meaning k) v S → Adds v q 0 w
    → x ≡ right_symbol (meaning k) q 0 → Joins S x T → Nexts (meaning k) w T
nexts_more k v w S T q x h n a e j =
    elim (cases_lt 0 (length (rhs (meaning k) q))) [
      | inl l ↦ nexts_some (meaning k) v w S T q n a x (right_next k q h 0 x l e) (omega (arith, e, right_below k q h 0 l)) j
      | inr l ↦ nexts_none (meaning k) v w S T q n a x (omega arith) (omega (arith, e, right_past k q h 0 l)) j
    ]
