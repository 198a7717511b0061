-- Alternatives that go on from some cuts.
use Rattle.std.proofs.Common.{◌≡◌, ℕ, ◌+◌, ◌-◌, ◌<◌, ◌≤◌, Bool, true, false, ◌≢◌, List, [], length, get_or, set, sym, refl, ap, ◌∙◌, subst, ap₂, inl, inr, arith, get_or-set_other, get_or-set_same}
use Rattle.std.proofs.lemmas.Bool.{cases_lt}
use Rattle.std.proofs.lemmas.Grind.{same_number_lists}
use Rattle.parsing.specs.Grammar.{Grammar, rhs}
use Rattle.spans.specs.Spans.{Path, part_fits}
use Rattle.spans.proofs.Paths.{path_of}
use Rattle.records.specs.declared.alternative.Alternative.{Alternative}
use Rattle.forest.specs.Marks.{Marked, goes, Completes}
use Rattle.forest.specs.Parts.{Unused, Extends, Whole}
use Rattle.forest.proofs.Rows.{goes_true, goes_false, path_forward, path_here}

module _ (g : Grammar) (fits : ℕ → ℕ → ℕ → Bool) (rows : List (List Bool)) (r j : ℕ) where
  -- At the end nothing is left to choose.
  pub ended : (p : ℕ) (ks : List ℕ) → p ≡ length (rhs g r) → length ks ≡ 8 → Unused p ks → (z : Alternative) → z ≡ record { rule = r; cuts = ks }
      → Extends g fits rows r j p ks z
  ended p ks q l u z e =
      subst (λ y. Extends g fits rows r j p ks y) (sym e)
      (record {
        rule = refl;
        long = l;
        same = λ k h. refl;
        fit = λ k a b. absurd (omega arith);
        marked = λ k a b. absurd (omega arith);
        within = λ k a b. absurd (omega arith);
        unused = λ k a b. u k (omega arith) b;
      })

  pub end_only : (p : ℕ) (ks : List ℕ) → p ≡ length (rhs g r) → length ks ≡ 8 → Unused p ks → (z : Alternative) → Extends g fits rows r j p ks z
      → z ≡ record { rule = r; cuts = ks }
  end_only p ks q l u z x =
      let n = x.long in
      let each : (k : ℕ) → k < length z.cuts → get_or z.cuts k 0 ≡ get_or ks k 0 = λ k h. elim (cases_lt p k) [
        | inl a ↦ x.unused k (omega arith) (omega arith) ∙ sym (u k a (omega arith))
        | inr a ↦ x.same k a
      ] in
      let e = same_number_lists z.cuts ks (x.long ∙ sym l) each in
      let d = x.rule in
      λ i. record { rule = d i; cuts = e i }

  module _ (p : ℕ) (ks : List ℕ) (kl : length ks ≡ 8) (pm : p < length (rhs g r)) (ml : length (rhs g r) ≤ 7) where
    -- The next cut.
    abbrev pub next : Alternative → ℕ
    next z = get_or z.cuts (p + 1) 0

    at_next : (c : ℕ) → get_or (set ks (p + 1) c) (p + 1) 0 ≡ c
    at_next c = get_or-set_same ks (p + 1) c 0 (omega arith)

    at_other : (c q : ℕ) → q ≤ p → get_or (set ks (p + 1) c) q 0 ≡ get_or ks q 0
    at_other c q l = let ne : q ≢ p + 1 = λ e. omega arith in get_or-set_other ks (p + 1) q c 0 ne

    next_cut : (c : ℕ) (z : Alternative) → Extends g fits rows r j (p + 1) (set ks (p + 1) c) z → next z ≡ c
    next_cut c z x = x.same (p + 1) (omega arith) ∙ at_next c

    pub shorter : (c : ℕ) → c ≤ j → goes (fits (get_or (rhs g r) p 0)) (get_or rows (p + 1) []) (get_or ks p 0) c ≡ true
        → (z : Alternative) → Extends g fits rows r j (p + 1) (set ks (p + 1) c) z → Extends g fits rows r j p ks z × (next z ≡ c)
    shorter c cj t z x =
        let (mk, h) = goes_true (fits (get_or (rhs g r) p 0)) (get_or rows (p + 1) []) (get_or ks p 0) c t in
        let n = next_cut c z x in
        let s = x.same p (omega arith) ∙ at_other c p (omega arith) in (
          record {
            rule = x.rule;
            long = x.long;
            same = λ q l. x.same q (omega arith) ∙ at_other c q l;
            fit = λ q a b. elim (cases_lt p q) [
              | inl l ↦ x.fit q (omega arith) b
              | inr l ↦
                  let e : p ≡ q = omega arith in
                  let P : ℕ → Type 0 = λ t. part_fits g fits r t (get_or z.cuts t 0) (get_or z.cuts (t + 1) 0) ≡ true in
                  subst P e (ap₂ (part_fits g fits r p) s n ∙ h)
            ];
            marked = λ q a b. elim (cases_lt (p + 1) q) [
              | inl l ↦ x.marked q l b
              | inr l ↦
                  let e : p + 1 ≡ q = omega arith in
                  let P : ℕ → Type 0 = λ t. Marked (get_or rows t []) (get_or z.cuts t 0) in
                  subst P e (subst (λ t. Marked (get_or rows (p + 1) []) t) (sym n) mk)
            ];
            within = λ q a b. elim (cases_lt (p + 1) q) [
              | inl l ↦ x.within q l b
              | inr l ↦
                  let e : p + 1 ≡ q = omega arith in
                  let P : ℕ → Type 0 = λ t. get_or z.cuts t 0 ≤ j in
                  subst P e (omega arith)
            ];
            unused = x.unused;
          },
          n,
        )

    pub longer : (c : ℕ) (z : Alternative) → Extends g fits rows r j p ks z → next z ≡ c → Extends g fits rows r j (p + 1) (set ks (p + 1) c) z
    longer c z x e = record {
      rule = x.rule;
      long = x.long;
      same = λ q l. elim (cases_lt p q) [
        | inl a ↦
            let i : p + 1 ≡ q = omega arith in
            let P : ℕ → Type 0 = λ t. get_or z.cuts t 0 ≡ get_or (set ks (p + 1) c) t 0 in
            subst P i (e ∙ sym (at_next c))
        | inr a ↦ x.same q a ∙ sym (at_other c q a)
      ];
      fit = λ q a b. x.fit q (omega arith) b;
      marked = λ q a b. x.marked q (omega arith) b;
      within = λ q a b. x.within q (omega arith) b;
      unused = x.unused;
    }

    -- The next cut is marked, and its part fits.
    next_fits : (z : Alternative) → Extends g fits rows r j p ks z → part_fits g fits r p (get_or ks p 0) (next z) ≡ true
    next_fits z x = ap (λ t. part_fits g fits r p t (next z)) (sym (x.same p (omega arith))) ∙ x.fit p (omega arith) pm

    pub no_next : (c : ℕ) → goes (fits (get_or (rhs g r) p 0)) (get_or rows (p + 1) []) (get_or ks p 0) c ≡ false
        → (z : Alternative) → Extends g fits rows r j p ks z → next z ≡ c → ⊥
    no_next c f z x e =
        goes_false (fits (get_or (rhs g r) p 0)) (get_or rows (p + 1) []) (get_or ks p 0) c f
        (subst (λ t. Marked (get_or rows (p + 1) []) t) e (x.marked (p + 1) (omega arith) (omega arith)))
        (subst (λ t. part_fits g fits r p (get_or ks p 0) t ≡ true) e (next_fits z x))

module _ (g : Grammar) (fits : ℕ → ℕ → ℕ → Bool) (forward : (x a b : ℕ) → fits x a b ≡ true → a ≤ b) (r i j : ℕ) where
  onward : (p a b : ℕ) → part_fits g fits r p a b ≡ true → a ≤ b
  onward p a b = forward (get_or (rhs g r) p 0) a b

  module _ (rows : List (List Bool)) (ml : length (rhs g r) ≤ 7) (rows_are : Completes (part_fits g fits r) (length (rhs g r)) i j rows 1)
      (ks : List ℕ) (first : get_or ks 0 0 ≡ i) where
    -- The parts of a whole alternative from q on make a path, and so do those before.
    tail : (z : Alternative) → Whole g fits r i j z → (q : ℕ) → q ≤ length (rhs g r) → Path (part_fits g fits r) q (get_or z.cuts q 0) (length (rhs g r)) j
    tail z x q l =
        let m = length (rhs g r) in
        let u = path_of {f = part_fits g fits r} z.cuts 0 q (m - q) (λ d a b. let e : 0 + d ≡ d = omega arith in rw e (x.fit d (omega arith))) in
        let e : 0 + q ≡ q = omega arith in
        let e' : q + (m - q) ≡ m = omega arith in
        let e'' : 0 + m ≡ m = omega arith in
        let v : Path (part_fits g fits r) q (get_or z.cuts q 0) m (get_or z.cuts m 0) = rw (e, e', e'') at u in
        subst (λ t. Path (part_fits g fits r) q (get_or z.cuts q 0) m t) x.to v

    head : (z : Alternative) → Whole g fits r i j z → (q : ℕ) → q ≤ length (rhs g r) → i ≤ get_or z.cuts q 0
    head z x q l =
        let u = path_of {f = part_fits g fits r} z.cuts 0 0 q (λ d a b. let e : 0 + d ≡ d = omega arith in rw e (x.fit d (omega arith))) in
        let k = path_forward (part_fits g fits r) onward u in
        let e : 0 + q ≡ q = omega arith in
        let h : get_or z.cuts 0 0 ≤ get_or z.cuts q 0 = rw e at k in
        let s = x.from in
        omega arith

    pub extends_whole : (length (rhs g r) ≡ 0 → i ≡ j) → (z : Alternative) → Extends g fits rows r j 0 ks z → Whole g fits r i j z
    extends_whole none z x =
        let m = length (rhs g r) in
        let s = x.same 0 (omega arith) ∙ first in
        record {
          rule = x.rule;
          long = x.long;
          from = s;
          to = elim (cases_lt 0 m) [
            | inl l ↦ path_here (part_fits g fits r) onward (omega arith) (rows_are.sound m (get_or z.cuts m 0) l (omega arith) (x.marked m l (omega arith)))
            | inr l ↦
                let e : 0 ≡ m = omega arith in
                let P : ℕ → Type 0 = λ t. get_or z.cuts t 0 ≡ j in
                subst P e (s ∙ none (sym e))
          ];
          fit = λ q l. x.fit q (omega arith) l;
          unused = x.unused;
        }

    pub whole_extends : (z : Alternative) → Whole g fits r i j z → Extends g fits rows r j 0 ks z
    whole_extends z x = record {
      rule = x.rule;
      long = x.long;
      same = λ q l. let e : 0 ≡ q = omega arith in let P : ℕ → Type 0 = λ t. get_or z.cuts t 0 ≡ get_or ks t 0 in subst P e (x.from ∙ sym first);
      fit = λ q a l. x.fit q l;
      marked = λ q a l. rows_are.whole q (get_or z.cuts q 0) a l (head z x q l) (tail z x q l);
      within = λ q a l. path_forward (part_fits g fits r) onward (tail z x q l);
      unused = x.unused;
    }
