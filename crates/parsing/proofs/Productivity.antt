-- Which symbols are productive: marks that are closed under the rules tell, so it can be decided.
use Rattle.std.proofs.Common.{◌≡◌, ℕ, zero, suc, ◌+◌, ◌<◌, ◌≤◌, Bool, true, ◌||◌, eqb, ltb, ◌⊎◌, List, [], ◌++◌, length, get_or, sym, refl, subst, inl, inr, arith}
use mathlib.Core.Logic.{∥∥₁_elim}
use mathlib.Core.HLevel.{⊥_prop}
use mathlib.Core.Bool.{Bool-discrete}
use native.Mathlib.Decide.{ℕ_discrete, dec_lt}
use Rattle.std.proofs.lemmas.Bool.{ltb-true, lt-ltb, eqb-true, eq-eqb, or_cases, or_left, or_right}
use Rattle.parsing.specs.Grammar.{Grammar, rule_count, lhs, rhs, Productive, WellFormed}
use Rattle.parsing.specs.Grammar.{Derivation, word, node, Parts, end, part}
use Rattle.parsing.proofs.Search.{all_below?}
use Rattle.parsing.proofs.Derivations.{terminal_productive, derive_behind}

-- The left symbol of a rule is productive when all its right symbols are.
pub productive_rule : {g : Grammar} (r : ℕ) → r < rule_count g
    → ((d : ℕ) → d < length (rhs g r) → Productive g (get_or (rhs g r) d 0)) → Productive g (lhs g r)
productive_rule {g} r h f = let (us, ps) = derive_behind [] (rhs g r) f in (us, node r h refl ps)

-- The right symbols of the rule r are all marked.
abbrev pub RightMarked : Grammar → (ℕ → Bool) → ℕ → Type 0
RightMarked g m r = (d : ℕ) → d < length (rhs g r) → m (get_or (rhs g r) d 0) ≡ true

module _ {g : Grammar} (m : ℕ → Bool)
    (terminals : (t : ℕ) → t < g.terminals → m t ≡ true)
    (rules : (r : ℕ) → r < rule_count g → RightMarked g m r → m (lhs g r) ≡ true) where
  mutual
    -- Marks on the terminals that are closed under the rules are on every symbol that derives anything.
    pub marked : {ws : List ℕ} {X i j : ℕ} → Derivation g ws X i j → m X ≡ true
    marked (word {X = X} t h e) = terminals X t
    marked (node r h e ps) = rw (← e) (rules r h (marked_parts ps))

    marked_parts : {ws Xs : List ℕ} {i j : ℕ} → Parts g ws Xs i j → (d : ℕ) → d < length Xs → m (get_or Xs d 0) ≡ true
    marked_parts end d h = absurd (omega arith)
    marked_parts (part k x ps) zero h = marked x
    marked_parts (part k x ps) (suc d) h = marked_parts ps d (omega arith)

-- Only productive symbols are marked.
abbrev Sound : Grammar → (ℕ → Bool) → Type 0
Sound g m = (X : ℕ) → m X ≡ true → Productive g X

-- The marks m, and one on A.
abbrev with_mark : (ℕ → Bool) → ℕ → ℕ → Bool
with_mark m A X = m X || eqb X A

with_mark_sound : {g : Grammar} {m : ℕ → Bool} {A : ℕ} → Sound g m → Productive g A → Sound g (with_mark m A)
with_mark_sound {m = m} {A = A} s p X e =
    elim (or_cases (m X) (eqb X A) e) [ inl x ↦ s X x | inr x ↦ rw (eqb-true X A x) p ]

-- Sound marks that keep those of m and are closed under the rules below n.
record Marking (g : Grammar) (m : ℕ → Bool) (n : ℕ) : Type 0 where
  marks : ℕ → Bool
  kept : (X : ℕ) → m X ≡ true → marks X ≡ true
  sound : Sound g marks
  closed : (r : ℕ) → r < n → RightMarked g marks r → marks (lhs g r) ≡ true

-- Where the rule n asks for no new mark, the marks are closed under it too.
also : {g : Grammar} {m : ℕ → Bool} {n : ℕ} (c : Marking g m n) → (RightMarked g c.marks n → c.marks (lhs g n) ≡ true)
    → Marking g m (suc n)
also {g} {m} {n} c here = record {
  marks = c.marks;
  kept = c.kept;
  sound = c.sound;
  closed = λ r l.
      elim (ℕ_discrete r n) [
        | yes e ↦ subst (λ q. RightMarked g c.marks q → c.marks (lhs g q) ≡ true) (sym e) here
        | no e ↦ c.closed r (omega arith)
      ];
}

-- Where it asks for a mark, its left symbol is marked, and the marks are closed once more under the rules before it.
close : {g : Grammar} (n : ℕ) → n ≤ rule_count g → (m : ℕ → Bool) → Sound g m → Marking g m n
close zero h m s = record { marks = m; kept = λ X e. e; sound = s; closed = λ r l. absurd (omega arith) }
close {g} (suc n) h m s =
    let c = close n (omega arith) m s in
    let A = lhs g n in
    elim (all_below? _ (λ d. Bool-discrete (c.marks (get_or (rhs g n) d 0)) true) (length (rhs g n))) [
      | no some ↦ also c (λ x. absurd (some x))
      | yes all ↦
          let p = productive_rule n h (λ d l. c.sound (get_or (rhs g n) d 0) (all d l)) in
          let a = close n (omega arith) (with_mark c.marks A) (with_mark_sound c.sound p) in
          let kept : (X : ℕ) → m X ≡ true → a.marks X ≡ true = λ X e. a.kept X (or_left (c.marks X) (eqb X A) (c.kept X e)) in
          also (record { marks = a.marks; kept = kept; sound = a.sound; closed = a.closed })
          (λ x. a.kept A (or_right (c.marks A) (eqb A A) (eq-eqb A A refl)))
    ]

-- Whether a symbol is productive can be decided: marks that begin with the terminals are closed under all rules.
pub productive? : (g : Grammar) (X : ℕ) → Productive g X ⊎ (Productive g X → ⊥)
productive? g X =
    elim (Bool-discrete (all.marks X) true) [
      | yes e ↦ inl (all.sound X e)
      | no e ↦ inr (λ p. e (marked all.marks (λ t h. all.kept t (lt-ltb t g.terminals h)) all.closed p.1))
    ]
  where
    all : Marking g (λ t. ltb t g.terminals) (rule_count g)
    all = close (rule_count g) (omega arith) (λ t. ltb t g.terminals) (λ t e. terminal_productive g t (ltb-true t g.terminals e))

-- So a symbol that is known to be productive gives its words and their derivation.
pub productive_pair : (g : Grammar) (X : ℕ) → ∥ Productive g X ∥₁ → Productive g X
productive_pair g X t = elim (productive? g X) [ inl p ↦ p | inr n ↦ absurd (∥∥₁_elim t ⊥_prop n) ]

-- All of the symbols are symbols of the grammar.
abbrev pub Symbols : Grammar → List ℕ → Type 0
Symbols g Xs = (k : ℕ) → k < length Xs → get_or Xs k 0 < g.terminals + g.nonterminals

module _ {g : Grammar} (wf : WellFormed g) where
  -- Every symbol derives some words.
  pub symbol_productive : (X : ℕ) → X < g.terminals + g.nonterminals → Productive g X
  symbol_productive X h =
      elim (dec_lt X g.terminals) [
        | yes t ↦ terminal_productive g X t
        | no t ↦ productive_pair g X (wf.productive X (record { low = omega arith; high = h }))
      ]

  -- So any symbols can be derived behind any words.
  pub complete_behind : (zs Xs : List ℕ) → Symbols g Xs
      → (us : List ℕ) × Parts g (zs ++ us) Xs (length zs) (length (zs ++ us))
  complete_behind zs Xs s = derive_behind zs Xs (λ k h. symbol_productive (get_or Xs k 0) (s k h))
