-- A walk has one outcome: each turn of it comes to one thing.
use Rattle.std.proofs.Common.{◌≡◌, ℕ, zero, suc, ◌<◌, ◌≢◌, ◌⊎◌, List, [], ◌∷◌, ◌++◌, length, sym, refl, ap, ◌∙◌, subst, inl, inr, arith}
use Rattle.std.proofs.lemmas.Bool.{cases_eq, cases_order}
use Rattle.parsing.specs.Grammar.{Grammar, rule_count}
use Rattle.table_format.specs.ItemSets.{Items, symbols, FirstRow, NoStep, StepTo}
use Rattle.table_format.specs.Tables.{Table, Ranged, wanted_mark}
use Rattle.table_format.specs.Walks.{Known, state_at, row_at, byte_at, KnownAt, Knows, NewState, NewRow}
use Rattle.table_format.specs.Walks.{Walked, begin, none, met, new, mark, turn}
use Rattle.table_format.specs.Walks.{Outcome, passes, refuses, Walk}
use Rattle.table_format.specs.Walks.{all_right, step_where_none, step_lacking, other_row, known_row, mark_wrong, never_reached}
use Rattle.table_format.proofs.Rows.{completed_one, step_one, not_both}
use Rattle.table_format.proofs.Progress.{Kept, kept}

-- Where the walk stands.
record Place : Type 0 where
  ks : List Known
  i : ℕ
  X : ℕ
  r : ℕ

-- What a turn comes to.
data Turn : Type 0 where
  goes : Place → Turn
  ends : Outcome → Turn

-- The state that is tried, its row, and its step byte.
abbrev tried : Place → ℕ
tried c = state_at c.ks c.i

abbrev row : Place → Items
row c = row_at c.ks c.i

abbrev byte : Table → Place → ℕ
byte t c = byte_at t c.ks c.i c.X

-- The walk goes on to the next symbol with these states known.
abbrev onward : Place → List Known → Turn
onward c ls = goes (record { ks = ls; i = c.i; X = suc c.X; r = 0 })

-- The turn is x where P holds, and y where it does not.
abbrev By : Type 0 → Turn → Turn → Turn → Type 0
By P x y a = (P × (a ≡ x)) ⊎ ((P → ⊥) × (a ≡ y))

-- What a turn comes to at a rule, at the end, at a step to a row w, and at a symbol.
abbrev AtRule : Grammar → Table → Place → Turn → Type 0
AtRule g t c a =
    ((c.r < rule_count g)
    × By (t.mark (tried c) c.r ≡ wanted_mark g (row c) c.r)
    (goes (record { ks = c.ks; i = c.i; X = symbols g; r = suc c.r })) (ends (refuses 28 (tried c) c.r)) a)
    ⊎ ((c.r ≡ rule_count g) × (a ≡ goes (record { ks = c.ks; i = suc c.i; X = 0; r = 0 })))

abbrev AtEnd : Table → Place → Turn → Type 0
AtEnd t c a =
    (((s : ℕ) → s < t.states → Knows c.ks s) × (a ≡ ends passes))
    ⊎ ((s : ℕ) × (s < t.states) × NewState c.ks s × ((u : ℕ) → u < s → Knows c.ks u) × (a ≡ ends (refuses 29 s 0)))

abbrev AtTarget : Table → Place → Items → Turn → Type 0
AtTarget t c w a =
    ((j : ℕ) × KnownAt c.ks (byte t c) j × By (row_at c.ks j ≡ w) (onward c c.ks) (ends (refuses 26 (tried c) c.X)) a)
    ⊎ (NewState c.ks (byte t c)
    × By (NewRow c.ks w) (onward c (c.ks ++ record { state = byte t c; row = w } ∷ [])) (ends (refuses 27 (tried c) c.X)) a)

abbrev AtSymbol : Grammar → Table → Place → Turn → Type 0
AtSymbol g t c a =
    (NoStep g (row c) c.X × By (byte t c ≡ 255) (onward c c.ks) (ends (refuses 24 (tried c) c.X)) a)
    ⊎ ((w : Items) × StepTo g (row c) c.X w
    × (((byte t c ≡ 255) × (a ≡ ends (refuses 25 (tried c) c.X))) ⊎ ((byte t c ≢ 255) × AtTarget t c w a)))

abbrev Does : Grammar → Table → Place → Turn → Type 0
Does g t c a =
    ((c.i < length c.ks) × (((c.X < symbols g) × (c.r ≡ 0) × AtSymbol g t c a) ⊎ ((c.X ≡ symbols g) × AtRule g t c a)))
    ⊎ ((c.i ≡ length c.ks) × AtEnd t c a)

either : {P Q U V R : Type 0} → P ⊎ Q → U ⊎ V → (P → U → R) → (P → V → R) → (Q → U → R) → (Q → V → R) → R
either (inl p) (inl u) f h k l = f p u
either (inl p) (inr v) f h k l = h p v
either (inr q) (inl u) f h k l = k q u
either (inr q) (inr v) f h k l = l q v

by_one : {P : Type 0} {x y a b : Turn} → By P x y a → By P x y b → a ≡ b
by_one p q =
    either p q (λ u v. u.1 ∙ sym v.1) (λ u v. absurd (v.0 u.0)) (λ u v. absurd (u.0 v.0)) (λ u v. u.1 ∙ sym v.1)

known_not_new : {ks : List Known} {s : ℕ} → Knows ks s → NewState ks s → ⊥
known_not_new (j, k) n = n j k.within k.is

module _ (g : Grammar) (t : Table) (c : Place) (kp : Kept g t c.ks) (a b : Turn) where
  rule_one : AtRule g t c a → AtRule g t c b → a ≡ b
  rule_one p q =
      either p q
      (λ x y. by_one x.1 y.1)
      (λ x y. absurd (omega (arith, x.0, y.0)))
      (λ x y. absurd (omega (arith, x.0, y.0)))
      (λ x y. x.1 ∙ sym y.1)

  end_one : AtEnd t c a → AtEnd t c b → a ≡ b
  end_one p q =
      either p q
      (λ x y. x.1 ∙ sym y.1)
      (λ x y. absurd (known_not_new (x.0 y.0 y.1) y.2))
      (λ x y. absurd (known_not_new (y.0 x.0 x.1) x.2))
      (λ x y.
      elim (cases_order x.0 y.0) [
        | inl e ↦ x.4 ∙ ap (λ s. ends (refuses 29 s 0)) e ∙ sym y.4
        | inr (inl l) ↦ absurd (known_not_new (y.3 x.0 l) x.2)
        | inr (inr l) ↦ absurd (known_not_new (x.3 y.0 l) y.2)
      ])

  target_one : (w : Items) → AtTarget t c w a → AtTarget t c w b → a ≡ b
  target_one w p q =
      either p q
      (λ x y.
      let e = kp.states_apart y.0 x.0 y.1.within x.1.within (y.1.is ∙ sym x.1.is) in
      by_one x.2 (subst (λ j. By (row_at c.ks j ≡ w) (onward c c.ks) (ends (refuses 26 (tried c) c.X)) b) e y.2))
      (λ x y. absurd (known_not_new (x.0, x.1) y.0))
      (λ x y. absurd (known_not_new (y.0, y.1) x.0))
      (λ x y. by_one x.1 y.1)

  symbol_one : AtSymbol g t c a → AtSymbol g t c b → a ≡ b
  symbol_one p q =
      either p q
      (λ x y. by_one x.1 y.1)
      (λ x y. absurd (not_both y.1 x.0))
      (λ x y. absurd (not_both x.1 y.0))
      (λ x y.
      either x.2 y.2
      (λ u v. u.1 ∙ sym v.1)
      (λ u v. absurd (v.0 u.0))
      (λ u v. absurd (u.0 v.0))
      (λ u v. target_one x.0 u.1 (subst (λ w. AtTarget t c w b) (step_one y.1 x.1) v.1)))

  does_one : Does g t c a → Does g t c b → a ≡ b
  does_one p q =
      either p q
      (λ x y.
      either x.1 y.1
      (λ u v. symbol_one u.2 v.2)
      (λ u v. absurd (omega (arith, u.0, v.0)))
      (λ u v. absurd (omega (arith, u.0, v.0)))
      (λ u v. rule_one u.1 v.1))
      (λ x y. absurd (omega (arith, x.0, y.0)))
      (λ x y. absurd (omega (arith, x.0, y.0)))
      (λ x y. end_one x.1 y.1)

-- n turns lead to a place.
data Run (g : Grammar) (t : Table) : ℕ → Place → Type 0 where
  start : {w : Items} → FirstRow g w → Run g t zero (record { ks = record { state = 0; row = w } ∷ []; i = 0; X = 0; r = 0 })
  more : {n : ℕ} {c d : Place} → Run g t n c → Kept g t c.ks → Does g t c (goes d) → Run g t (suc n) d

same_goes : (c d : Place) → goes c ≡ goes d → c ≡ d
same_goes c d e = cc

same_ends : (o p : Outcome) → ends o ≡ ends p → o ≡ p
same_ends o p e = cc

not_same : (c : Place) (o : Outcome) → goes c ≡ ends o → ⊥
not_same c o e = let z : ◌≡◌ {A = ℕ} 0 1 = cc in omega arith

-- As many turns lead to one place.
same : {g : Grammar} {t : Table} (n : ℕ) {c d : Place} → Run g t n c → Run g t n d → c ≡ d
same {g} zero (start f) (start h) =
    ap (λ u. record { ks = record { state = 0; row = u } ∷ []; i = 0; X = 0; r = 0 }) (completed_one {g = g} f h)
same {g} {t} (suc n) (more {c = c} {d = d} x k y) (more {d = e} u l v) =
    same_goes d e (does_one g t c k (goes d) (goes e) y (subst (λ z. Does g t z (goes e)) (sym (same n x u)) v))

-- A longer run goes on from the place that a shorter one leads to.
cut : {g : Grammar} {t : Table} {m : ℕ} {d : Place} (n : ℕ) → n < m → Run g t m d
    → (c : Place) × (e : Place) × Run g t n c × Kept g t c.ks × Does g t c (goes e)
cut n h (start f) = absurd (omega arith)
cut {g} {t} n h (more {n = m} {c = c} {d = d} x k y) =
    elim (cases_eq n m) [
      | inl e ↦ (c, d, subst (λ z. Run g t z c) (sym e) x, k, y)
      | inr ne ↦ cut n (omega arith) x
    ]

-- A walk is a run.
run : {g : Grammar} {t : Table} {ks : List Known} {i X r : ℕ} → Ranged g t → Walked g t ks i X r
    → (n : ℕ) × Run g t n (record { ks = ks; i = i; X = X; r = r })
run rg (begin f) = (0, start f)
run rg (none w h x n e) = let (m, u) = run rg w in (suc m, more u (kept rg w) (inl (h, inl (x, refl, inl (n, inl (e, refl))))))
run rg (met {ks = ks} j w h x s ne a) =
    let (m, u) = run rg w in
    (suc m, more u (kept rg w) (inl (h, inl (x, refl, inr (row_at ks j, s, inr (ne, inl (j, a, inl (refl, refl))))))))
run rg (new {w = v} w h x s ne ns nr) =
    let (m, u) = run rg w in
    (suc m, more u (kept rg w) (inl (h, inl (x, refl, inr (v, s, inr (ne, inr (ns, inl (nr, refl))))))))
run rg (mark w h l e) = let (m, u) = run rg w in (suc m, more u (kept rg w) (inl (h, inr (refl, inl (l, inl (e, refl))))))
run rg (turn w h) = let (m, u) = run rg w in (suc m, more u (kept rg w) (inl (h, inr (refl, inr (refl, refl)))))

-- An outcome is what some run ends with.
record Ending (g : Grammar) (t : Table) (o : Outcome) : Type 0 where
  turns : ℕ
  place : Place
  led : Run g t turns place
  keeps : Kept g t place.ks
  stops : Does g t place (ends o)

ending : {g : Grammar} {t : Table} {o : Outcome} {ks : List Known} {i X r : ℕ} → Ranged g t → Walked g t ks i X r
    → Does g t (record { ks = ks; i = i; X = X; r = r }) (ends o) → Ending g t o
ending {ks = ks} {i = i} {X = X} {r = r} rg w d =
    let (m, u) = run rg w in
    record { turns = m; place = record { ks = ks; i = i; X = X; r = r }; led = u; keeps = kept rg w; stops = d }

ended : {g : Grammar} {t : Table} {o : Outcome} → Ranged g t → Walk g t o → Ending g t o
ended rg (all_right w all) = ending rg w (inr (refl, inl (all, refl)))
ended rg (step_where_none w h x n ne) = ending rg w (inl (h, inl (x, refl, inl (n, inr (ne, refl)))))
ended rg (step_lacking {w = v} w h x s e) = ending rg w (inl (h, inl (x, refl, inr (v, s, inl (e, refl)))))
ended rg (other_row {w = v} j w h x s ne a n) = ending rg w (inl (h, inl (x, refl, inr (v, s, inr (ne, inl (j, a, inr (n, refl)))))))
ended rg (known_row {w = v} j w h x s ne ns l e) =
    ending rg w (inl (h, inl (x, refl, inr (v, s, inr (ne, inr (ns, inr (λ nr. nr j l e, refl)))))))
ended rg (mark_wrong w h l ne) = ending rg w (inl (h, inr (refl, inl (l, inr (ne, refl)))))
ended rg (never_reached s w h n u) = ending rg w (inr (refl, inr (s, h, n, u, refl)))

-- No run goes on from where another ends.
later : {g : Grammar} {t : Table} {o p : Outcome} (x : Ending g t o) (y : Ending g t p) → x.turns < y.turns → ⊥
later {g} {t} {o} x y h =
    let (c, e, u, k, d) = cut x.turns h y.led in
    not_same e o (does_one g t c k (goes e) (ends o) d (subst (λ z. Does g t z (ends o)) (same x.turns x.led u) x.stops))

pub walk_one : {g : Grammar} {t : Table} {o p : Outcome} → Ranged g t → Walk g t o → Walk g t p → o ≡ p
walk_one {g} {t} {o} {p} rg v w =
    let x = ended rg v in
    let y = ended rg w in
    elim (cases_order x.turns y.turns) [
      | inl e ↦
          let s = same y.turns (subst (λ z. Run g t z x.place) e x.led) y.led in
          same_ends o p (does_one g t x.place x.keeps (ends o) (ends p) x.stops (subst (λ z. Does g t z (ends p)) (sym s) y.stops))
      | inr (inl l) ↦ absurd (later x y l)
      | inr (inr l) ↦ absurd (later y x l)
    ]
