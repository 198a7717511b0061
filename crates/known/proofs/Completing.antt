-- A row that passes the test of completing a kernel is the closure of that kernel.
use Rattle.std.proofs.Common.{◌≡◌, ℕ, zero, suc, ◌<◌, ◌≤◌, Bool, true, false, not, ◌&&◌, ◌||◌, eqb, ltb, ◌↔◌, length, get_or, sym, refl, subst, inl, inr, arith}
use Rattle.std.proofs.lemmas.Bool.{and_parts, and_from, or_cases, eqb-true, eq-eqb, ltb-true, lt-ltb, not-true, both_ways, false≢true}
use Rattle.parsing.specs.Grammar.{Grammar, rule_count, lhs, rhs}
use Rattle.parsing.specs.Items.{Next, Closure, kernel, predict, Initial}
use Rattle.parsing.proofs.Least.{closure_least}
use Rattle.table_format.specs.ItemSets.{Items, Moved, Moves, NoStep}
use Rattle.known.proofs.Tests.{implies, implied, all_below, at_below, some_below, found_below}

-- The items of a row are of rules below n, with a dot below 8.
abbrev pub Inside : ℕ → Items → Type 0
Inside n w = (r d : ℕ) → w r d ≡ true → (r < n) × (d < 8)

module _ (g : Grammar) where
  -- The symbol behind the dot.
  abbrev behind : ℕ → ℕ → ℕ
  behind r d = get_or (rhs g r) d 0

  -- Some item with something behind its dot passes, or all do.
  abbrev some_open : (ℕ → ℕ → Bool) → Bool
  some_open p = some_below (rule_count g) (λ r. some_below (length (rhs g r)) (λ d. p r d))

  abbrev all_open : (ℕ → ℕ → Bool) → Bool
  all_open p = all_below (rule_count g) (λ r. all_below (length (rhs g r)) (λ d. p r d))

  found_open : (p : ℕ → ℕ → Bool) → some_open p ≡ true → (r : ℕ) × (d : ℕ) × Next g r d (behind r d) × (p r d ≡ true)
  found_open p e =
      let (r, h, x) = found_below (rule_count g) _ e in
      let (d, l, y) = found_below (length (rhs g r)) (p r) x in
      (r, d, record { rule_in = h; dot_in = l; symbol = refl }, y)

  at_open : (p : ℕ → ℕ → Bool) → all_open p ≡ true → {r d X : ℕ} → Next g r d X → p r d ≡ true
  at_open p e {r} {d} n = at_below (length (rhs g r)) (p r) (at_below (rule_count g) _ e r n.rule_in) d n.dot_in

  -- An item of w is in the kernel, or is predicted by an item of the kernel; the kernel is in w, and what w predicts is.
  abbrev predicted? : Items → ℕ → Bool
  predicted? k q = some_open (λ r d. k r d && eqb (behind r d) (lhs g q))

  abbrev right? : Items → Items → ℕ → ℕ → Bool
  right? k w r d = implies (w r d) (k r d || (eqb d 0 && predicted? k r)) && implies (k r d) (w r d)

  abbrev within? : Items → Items → Bool
  within? k w = all_below (rule_count g) (λ r. all_below 8 (right? k w r))

  is_right : (k w : Items) → within? k w ≡ true → (r d : ℕ) → r < rule_count g → d < 8
      → (implies (w r d) (k r d || (eqb d 0 && predicted? k r)) ≡ true) × (implies (k r d) (w r d) ≡ true)
  is_right k w e r d h l = and_parts _ _ (at_below 8 (right? k w r) (at_below (rule_count g) _ e r h) d l)

  abbrev predicts? : Items → ℕ → ℕ → Bool
  predicts? w r d = implies (w r d) (all_below (rule_count g) (λ q. implies (eqb (behind r d) (lhs g q)) (w q 0)))

  abbrev closed? : Items → Bool
  closed? w = all_open (predicts? w)

  abbrev pub completes? : Items → Items → Bool
  completes? k w = within? k w && closed? w

  module _ (I : ℕ → ℕ → Type 0) (k w : Items) (sound : (r d : ℕ) → k r d ≡ true → I r d) (whole : (r d : ℕ) → I r d → k r d ≡ true)
      (k_inside : Inside (rule_count g) k) (w_inside : Inside (rule_count g) w) where
    in_closure : within? k w ≡ true → (r d : ℕ) → w r d ≡ true → Closure g I r d
    in_closure e r d x =
        let (h, l) = w_inside r d x in
        elim (or_cases _ _ (implied _ _ (is_right k w e r d h l).0 x)) [
          | inl a ↦ kernel (sound r d a)
          | inr a ↦
              let (z, b) = and_parts _ _ a in
              let (r', d', n, c) = found_open (λ r' d'. k r' d' && eqb (behind r' d') (lhs g r)) b in
              let (u, v) = and_parts _ _ c in
              let next : Next g r' d' (lhs g r) = record { rule_in = n.rule_in; dot_in = n.dot_in; symbol = eqb-true _ _ v } in
              subst (Closure g I r) (sym (eqb-true _ _ z)) (predict {r = r'} {d = d'} r (kernel (sound r' d' u)) h next)
        ]

    of_closure : within? k w ≡ true → closed? w ≡ true → {r d : ℕ} → Closure g I r d → w r d ≡ true
    of_closure e f =
        closure_least (λ r d. w r d ≡ true)
        (λ r d i.
        let x = whole r d i in
        let (h, l) = k_inside r d x in
        implied _ _ (is_right k w e r d h l).1 x)
        (λ r d q x h n.
        implied _ _
        (at_below (rule_count g) _ (implied _ _ (at_open (predicts? w) f n) x) q h)
        (eq-eqb _ _ n.symbol))

    pub completes : completes? k w ≡ true → (r d : ℕ) → (w r d ≡ true) ↔ Closure g I r d
    completes e r d = let (a, b) = and_parts _ _ e in (in_closure a r d, of_closure a b)

  -- The kernel of the first row.
  abbrev pub first_kernel : Items
  first_kernel r d = eqb r 0 && eqb d 0

  first_sound : (r d : ℕ) → first_kernel r d ≡ true → Initial r d
  first_sound r d e = let (p, q) = and_parts _ _ e in record { rule_zero = eqb-true _ _ p; dot_zero = eqb-true _ _ q }

  first_whole : (r d : ℕ) → Initial r d → first_kernel r d ≡ true
  first_whole r d i = and_from _ _ (eq-eqb _ _ i.rule_zero) (eq-eqb _ _ i.dot_zero)

  pub first_completes : 0 < rule_count g → (w : Items) → Inside (rule_count g) w → completes? first_kernel w ≡ true
      → (r d : ℕ) → (w r d ≡ true) ↔ Closure g Initial r d
  first_completes some w inside =
      completes Initial first_kernel w first_sound first_whole
      (λ r d e. let i = first_sound r d e in (omega (arith, i.rule_zero), omega (arith, i.dot_zero))) inside

  -- The kernel of the step of v by X.
  module _ (v : Items) (X : ℕ) where
    abbrev passes? : ℕ → ℕ → Bool
    passes? r d = v r d && eqb (behind r d) X

    abbrev pub step_kernel : Items
    step_kernel r zero = false
    step_kernel r (suc d) = (ltb r (rule_count g) && ltb d (length (rhs g r))) && passes? r d

    step_sound : (r d : ℕ) → step_kernel r d ≡ true → Moved g v X r d
    step_sound r zero e = absurd (false≢true e)
    step_sound r (suc d) e =
        let (a, b) = and_parts _ _ e in
        let (h, l) = and_parts _ _ a in
        let (x, y) = and_parts _ _ b in
        record {
          dot = d;
          moved = refl;
          before = x;
          over = record { rule_in = ltb-true _ _ h; dot_in = ltb-true _ _ l; symbol = eqb-true _ _ y };
        }

    step_whole : (r d : ℕ) → Moved g v X r d → step_kernel r d ≡ true
    step_whole r d m = rw m.moved (passed m.dot m.before m.over)
      where
        passed : (d : ℕ) → v r d ≡ true → Next g r d X → step_kernel r (suc d) ≡ true
        passed d x n =
            and_from _ _
            (and_from _ _ (lt-ltb _ _ n.rule_in) (lt-ltb _ _ n.dot_in))
            (and_from _ _ x (eq-eqb _ _ n.symbol))

    pub step_completes : ((r : ℕ) → r < rule_count g → length (rhs g r) ≤ 7) → (w : Items) → Inside (rule_count g) w
        → completes? step_kernel w ≡ true → (r d : ℕ) → (w r d ≡ true) ↔ Closure g (Moved g v X) r d
    step_completes short w inside =
        completes (Moved g v X) step_kernel w step_sound step_whole
        (λ r d e.
        let m = step_sound r d e in
        (m.over.rule_in, omega (arith, m.moved, m.over.dot_in, short r m.over.rule_in)))
        inside

    -- Some item moves, or none does.
    abbrev pub moves? : Bool
    moves? = some_open passes?

    pub is_moving : moves? ≡ true → Moves g v X
    is_moving e =
        let (r, d, n, x) = found_open passes? e in
        let (y, z) = and_parts _ _ x in
        record { rule = r; dot = d; inside = y; next = record { rule_in = n.rule_in; dot_in = n.dot_in; symbol = eqb-true _ _ z } }

    abbrev pub stays? : Bool
    stays? = all_open (λ r d. not (passes? r d))

    pub is_staying : stays? ≡ true → NoStep g v X
    is_staying e r d x n =
        both_ways _ (not-true _ (at_open (λ r d. not (passes? r d)) e n))
        (and_from _ _ x (eq-eqb _ _ n.symbol))
