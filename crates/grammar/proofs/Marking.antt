-- Marks on symbols: how they grow, and what they show once nothing is added.
use Rattle.std.proofs.Common.{◌≡◌, ℕ, zero, suc, ◌+◌, ◌-◌, ◌<◌, ◌≤◌, Bool, true, false, cond, ltb, ◌≢◌, List, ◌++◌, length, get_or, drop, set, replicate, MatchBool, MatchOption, Some, None, Option, sym, refl, ap, ◌∙◌, subst, arith, below_more}
use native.Mathlib.Decide.{ℕ_discrete, dec_lt}
use Rattle.std.proofs.lemmas.List.{get_or-set_same, get_or-set_other, length-set, length-replicate, get_or-replicate, get_or_append_left, get_or-append_right, get_or-drop}
use Rattle.std.proofs.lemmas.Bool.{lt-ltb, le-ltb, ltb-true, both_ways}
use Rattle.std.proofs.lemmas.Bool.Decides.{when_true, when_false}
use Rattle.parsing.specs.Grammar.{Grammar, Productive}
use Rattle.parsing.proofs.Derivations.{terminal_productive}
use Rattle.parsing.proofs.Productivity as parsing
use Rattle.grammar.specs.Finding.{FirstOf}
use Rattle.grammar.specs.Holding.{grammar_from, rule_at}
use Rattle.grammar.specs.Marking.{marked, Ready, Within, Sound, Closed, unmarked}
use Rattle.grammar.specs.declared.rule.Rule.{Rule}
use Rattle.grammar.proofs.Rewriting.{count_is, left_is, right_is}

-- What one symbol adds to the number of those that are not marked.
abbrev lack : Bool → ℕ
lack b = cond b 0 1

abbrev lacks : List Bool → ℕ → ℕ
lacks m n = lack (marked m n)

-- Nothing is marked at first.
none_marked : (n X : ℕ) → marked (replicate n false) X ≡ false
none_marked zero X = refl
none_marked (suc n) zero = refl
none_marked (suc n) (suc X) = none_marked n X

-- Marks on the first n symbols alone.
pub front_marked : (n k : ℕ) (xs : List Bool) → xs ≡ replicate n true → (X : ℕ) → marked (xs ++ drop n (replicate k false)) X ≡ ltb X n
front_marked n k xs e X =
    let l : length xs ≡ n = ap length e ∙ length-replicate n true in
    elim (dec_lt X n) [
      | yes h ↦
          get_or_append_left xs (drop n (replicate k false)) false X (omega arith)
          ∙ ap (λ (ys : List Bool). marked ys X) e ∙ get_or-replicate n X true false h ∙ sym (lt-ltb X n h)
      | no h ↦
          get_or-append_right xs (drop n (replicate k false)) n X false l (omega arith)
          ∙ get_or-drop n (replicate k false) (X - n) false ∙ none_marked k (n + (X - n)) ∙ sym (le-ltb X n (omega arith))
    ]

module _ (m : List Bool) (a : ℕ) (l : a < length m) where
  -- A mark more keeps the others.
  pub set_within : Within m (set m a true)
  set_within X h =
      elim (ℕ_discrete X a) [
        | yes e ↦ ap (marked (set m a true)) e ∙ get_or-set_same m a true false l
        | no n ↦ get_or-set_other m a X true false n ∙ h
      ]

  -- It is sound where a derives some list of terminals.
  pub set_sound : {g : Grammar} → Sound g m → Productive g a → Sound g (set m a true)
  set_sound {g} s p X h =
      elim (ℕ_discrete X a) [
        | yes e ↦ subst (Productive g) (sym e) p
        | no n ↦ s X (sym (get_or-set_other m a X true false n) ∙ h)
      ]

  same_others : (n : ℕ) → n ≤ a → unmarked (set m a true) n ≡ unmarked m n
  unfolding unmarked
  same_others zero h = refl
  same_others (suc n) h =
      let i = same_others n (omega arith) in
      let k : n ≢ a = omega arith in
      let e : lacks (set m a true) n ≡ lacks m n = ap lack (get_or-set_other m a n true false k) in
      omega arith

  -- And it leaves fewer symbols unmarked, where a was one of them.
  pub set_falls : (n : ℕ) → a < n → marked m a ≡ false → unmarked (set m a true) n < unmarked m n
  unfolding unmarked
  set_falls zero h f = absurd (omega arith)
  set_falls (suc n) h f =
      elim (ℕ_discrete n a) [
        | yes e ↦
            let i = same_others n (omega arith) in
            let new : lacks (set m a true) n ≡ 0 = ap lack (ap (marked (set m a true)) e ∙ get_or-set_same m a true false l) in
            let old : lacks m n ≡ 1 = ap lack (ap (marked m) e ∙ f) in
            omega arith
        | no k ↦
            let i = set_falls n (omega arith) f in
            let e : lacks (set m a true) n ≡ lacks m n = ap lack (get_or-set_other m a n true false k) in
            omega arith
      ]

-- The left symbol of a rule that is ready under sound marks derives some list of terminals.
pub ready_productive : (T N : ℕ) (ps : List Rule) (r : ℕ) (m : List Bool) → r < length ps
    → Sound (grammar_from T N ps) m → Ready m (rule_at ps r).right → Productive (grammar_from T N ps) (rule_at ps r).left
ready_productive T N ps r m h s f =
    let g = grammar_from T N ps in
    subst (Productive g) (left_is T N ps r)
    (parsing.productive_rule r (omega (arith, count_is T N ps))
    (subst (λ (xs : List ℕ). (d : ℕ) → d < length xs → Productive g (get_or xs d 0)) (sym (right_is T N ps r)) (λ d l. s _ (f d l))))

-- Marks that hold the terminals and are closed under the rules are on every symbol that derives some list of terminals.
pub closed_marks : (T N : ℕ) (ps : List Rule) (m : List Bool) → ((t : ℕ) → t < T → marked m t ≡ true) → Closed ps m (length ps)
    → (X : ℕ) → Productive (grammar_from T N ps) X → marked m X ≡ true
closed_marks T N ps m t f X p =
    parsing.marked {g = grammar_from T N ps} (marked m) t
    (λ r h ready.
    ap (marked m) (left_is T N ps r) ∙ f r (omega (arith, count_is T N ps)) (subst (Ready m) (right_is T N ps r) ready))
    p.1

-- After r rules of a round that began with the marks u: the marks v, of which some are new exactly when b says so.
abbrev pub Spread : List Rule → List Bool → List Bool → Bool → ℕ → Type 0
Spread ps u v b r =
    (length v ≡ 256)
    × Within u v
    × ((T N : ℕ) → Sound (grammar_from T N ps) u → Sound (grammar_from T N ps) v)
    × MatchBool b (unmarked v 256 < unmarked u 256) ((v ≡ u) × Closed ps v r)

no_more : (b : Bool) (u v : List Bool) (P : Type 0) → MatchBool b (unmarked v 256 < unmarked u 256) ((v ≡ u) × P) → unmarked v 256 ≤ unmarked u 256
no_more true u v P h = omega arith
no_more false u v P (e, p) = let f : unmarked v 256 ≡ unmarked u 256 = ap (λ (w : List Bool). unmarked w 256) e in omega arith

weaker : (b : Bool) (A E P Q : Type 0) → (P → Q) → MatchBool b A (E × P) → MatchBool b A (E × Q)
weaker true A E P Q f h = h
weaker false A E P Q f (e, p) = (e, f p)

module _ (ps : List Rule) (u v z : List Bool) (b t : Bool) (r : ℕ) (s : Spread ps u v b r) where
  -- A rule that is ready marks its left symbol.
  pub mark_turn : r < length ps → (rule_at ps r).left < 256 → marked v (rule_at ps r).left ≡ false → Ready v (rule_at ps r).right
      → z ≡ set v (rule_at ps r).left true → t ≡ true → Spread ps u z t (r + 1)
  mark_turn h i f ready e d =
      let a = (rule_at ps r).left in
      let l : a < length v = omega (arith, s.0, i) in
      let less = set_falls v a l 256 i f in
      let still = no_more b u v (Closed ps v r) s.3 in
      let Q : Bool → Type 0 = λ y. MatchBool y (unmarked (set v a true) 256 < unmarked u 256) ((set v a true ≡ u) × Closed ps (set v a true) (r + 1)) in
      subst (λ (w : List Bool). Spread ps u w t (r + 1)) (sym e) (
        simp length-set s.0,
        (λ X k. set_within v a l X (s.1 X k)),
        (λ T N k. set_sound v a l (s.2 T N k) (ready_productive T N ps r v h (s.2 T N k) ready)),
        subst Q (sym d) (omega arith),
      )

  -- Any other leaves the marks as they are.
  pub idle_turn : (Ready v (rule_at ps r).right → marked v (rule_at ps r).left ≡ true) → z ≡ v → t ≡ b → Spread ps u z t (r + 1)
  idle_turn here e d =
      let Q : Bool → Type 0 = λ y. MatchBool y (unmarked v 256 < unmarked u 256) ((v ≡ u) × Closed ps v (r + 1)) in
      subst (λ (w : List Bool). Spread ps u w t (r + 1)) (sym e)
      (s.0, s.1, s.2, subst Q (sym d) (weaker b _ _ (Closed ps v r) (Closed ps v (r + 1)) (λ k. below_more _ r k here) s.3))

-- The terminals alone are sound marks.
pub terminals_sound : (T N : ℕ) (ps : List Rule) (m : List Bool) → ((X : ℕ) → marked m X ≡ ltb X T) → Sound (grammar_from T N ps) m
terminals_sound T N ps m f X h = terminal_productive (grammar_from T N ps) X (ltb-true X T (sym (f X) ∙ h))

-- Marks that are sound and closed tell what derives some list of terminals.
pub marks_tell : (T N : ℕ) (ps : List Rule) (m : List Bool) → ((t : ℕ) → t < T → marked m t ≡ true) → Sound (grammar_from T N ps) m → Closed ps m (length ps)
    → (X : ℕ) → MatchBool (marked m X) (Productive (grammar_from T N ps) X) (Productive (grammar_from T N ps) X → ⊥)
marks_tell T N ps m t s f X = tell (marked m X) refl
  where
    tell : (b : Bool) → marked m X ≡ b → MatchBool b (Productive (grammar_from T N ps) X) (Productive (grammar_from T N ps) X → ⊥)
    tell true e = s X e
    tell false e = λ p. both_ways (marked m X) e (closed_marks T N ps m t f X p)

-- The first symbol that is not marked, where the marks tell of which symbols P holds.
pub first_without : (P : ℕ → Type 0) (m : List Bool) → ((X : ℕ) → MatchBool (marked m X) (P X) (P X → ⊥)) → (low high : ℕ) (o : Option ℕ)
    → MatchOption o ((X : ℕ) → low ≤ X → X < high → marked m X ≡ true)
    (λ X. (low ≤ X) × (X < high) × (marked m X ≡ false) × ((Y : ℕ) → low ≤ Y → Y < X → marked m Y ≡ true))
    → FirstOf low high (λ X. P X → ⊥) o
first_without P m t low high None f = λ X h k n. n (when_true _ _ (f X h k) (t X))
first_without P m t low high (Some X) (h, k, e, f) = (h, k, when_false _ _ e (t X), (λ Y i j n. n (when_true _ _ (f Y i j) (t Y))))
