-- How rows of marks grow, and what they mark.
use Rattle.std.proofs.Common.{◌≡◌, ℕ, zero, suc, ◌+◌, ◌<◌, ◌≤◌, Bool, true, false, ◌≢◌, ◌⊎◌, List, [], length, get_or, set, replicate, sym, refl, ap, ◌∙◌, subst, subst₂, ap₂, ◌&&◌, inl, inr, arith, length-set, get_or-set_other, get_or-set_same}
use Rattle.std.proofs.lemmas.List.{get_or-replicate}
use Rattle.std.proofs.lemmas.Bool.{cases_order, cases_lt, and_parts, false≢true}
use Rattle.spans.specs.Spans.{Path, stay, step}
use Rattle.spans.proofs.Paths.{path_rises, join, one}
use Rattle.forest.specs.Marks.{Marked, Added, goes, Begins, Ends, Completes, Leads}

pub unmarked : (n k : ℕ) → Marked (replicate n false) k → ⊥
unmarked zero k h = false≢true h
unmarked (suc n) zero h = false≢true h
unmarked (suc n) (suc k) h = unmarked n k h

-- A place that is read by an equal number.
pub here : (row : List Bool) (a b : ℕ) → a ≡ b → get_or row a false ≡ true → Marked row b
here row a b e h = subst (λ t. Marked row t) e h

pub not_here : (row : List Bool) (a b : ℕ) → a ≡ b → get_or row a false ≡ false → Marked row b → ⊥
not_here row a b e h m = false≢true (sym h ∙ subst (λ t. Marked row t) (sym e) m)

-- A mark that is written stands, and no other changes.
pub marked_here : (row : List Bool) (i : ℕ) → i < length row → Marked (set row i true) i
marked_here row i l = get_or-set_same row i true false l

pub marked_back : (row : List Bool) (i k : ℕ) → Marked (set row i true) k → Marked row k ⊎ (k ≡ i)
marked_back row i k h = elim (cases_order k i) [
  | inl e ↦ inr e
  | inr (inl n) ↦ inl (sym (get_or-set_other row i k true false (omega arith)) ∙ h)
  | inr (inr n) ↦ inl (sym (get_or-set_other row i k true false (omega arith)) ∙ h)
]

-- A row that marks one place alone.
pub one_marked : (j k : ℕ) (row : List Bool) → row ≡ set (replicate 256 false) j true → Marked row k → k ≡ j
one_marked j k row e h = elim (marked_back (replicate 256 false) j k (subst (λ t. Marked t k) e h)) [ inl m ↦ absurd (unmarked 256 k m) | inr q ↦ q ]

pub marked_one : (j : ℕ) (row : List Bool) → row ≡ set (replicate 256 false) j true → j < 256 → Marked row j
marked_one j row e l = subst (λ t. Marked t j) (sym e) (marked_here (replicate 256 false) j l)

-- What the answer of `goes` tells.
pub goes_true : (h : ℕ → ℕ → Bool) (next : List Bool) (a b : ℕ) → goes h next a b ≡ true → Marked next b × (h a b ≡ true)
goes_true h next a b e = and_parts (get_or next b false) (h a b) e

pub goes_false : (h : ℕ → ℕ → Bool) (next : List Bool) (a b : ℕ) → goes h next a b ≡ false → Marked next b → h a b ≡ true → ⊥
goes_false h next a b e m f = false≢true (sym e ∙ ap₂ ◌&&◌ m f)

pub added_then : (P Q S : ℕ → Type 0) (x y z : List Bool) → ((a : ℕ) → P a → S a) → ((a : ℕ) → Q a → S a) → ((a : ℕ) → S a → P a ⊎ Q a)
    → Added P x y → Added Q y z → Added S x z
added_then P Q S x y z p q s u v = record {
  size = v.size ∙ u.size;
  kept = λ a h. v.kept a (u.kept a h);
  whole = λ a h. elim (s a h) [ inl w ↦ v.kept a (u.whole a w) | inr w ↦ v.whole a w ];
  only = λ a h. elim (v.only a h) [ inl w ↦ elim (u.only a w) [ inl t ↦ inl t | inr t ↦ inr (p a t) ] | inr w ↦ inr (q a w) ];
}

pub added_as : (P Q : ℕ → Type 0) (x y : List Bool) → ((a : ℕ) → P a → Q a) → ((a : ℕ) → Q a → P a) → Added P x y → Added Q x y
added_as P Q x y f g u = record {
  size = u.size;
  kept = u.kept;
  whole = λ a h. u.whole a (g a h);
  only = λ a h. elim (u.only a h) [ inl w ↦ inl w | inr w ↦ inr (f a w) ];
}

-- A loop that marks the places with the property S, by rising place.
module _ (S : ℕ → Type 0) where
  abbrev pub Upto : ℕ → ℕ → Type 0
  Upto k a = S a × (a < k)

module _ (h : ℕ → ℕ → Bool) (forward : (a b : ℕ) → h a b ≡ true → a ≤ b) (i j : ℕ) (next : List Bool) where
  -- The places from i on that lead onward to a place below k.
  abbrev pub Reach : ℕ → ℕ → Type 0
  Reach k a = (i ≤ a) × ((b : ℕ) × (b ≤ j) × (h a b ≡ true) × Marked next b × (b < k))

  pub reach_taken : (x y z : List Bool) (k : ℕ) → k ≤ j → Marked next k → Added (Reach k) x y → Added (λ a. (i ≤ a) × (h a k ≡ true)) y z → Added (Reach (k + 1)) x z
  reach_taken x y z k kj m u v =
      added_then (Reach k) (λ a. (i ≤ a) × (h a k ≡ true)) (Reach (k + 1)) x y z
      (λ a w. let (b, bj, e, n, l) = w.1 in (w.0, (b, bj, e, n, omega arith)))
      (λ a w. (w.0, (k, kj, w.1, m, omega arith)))
      (λ a w. let (b, bj, e, n, l) = w.1 in elim (cases_lt b k) [
        | inl lt ↦ inl (w.0, (b, bj, e, n, lt))
        | inr ge ↦ let q : b ≡ k = omega arith in inr (w.0, subst (λ t. h a t ≡ true) q e)
      ])
      u v

  pub reach_passed : (x y : List Bool) (k : ℕ) → (Marked next k → ⊥) → Added (Reach k) x y → Added (Reach (k + 1)) x y
  reach_passed x y k f u =
      added_as (Reach k) (Reach (k + 1)) x y
      (λ a w. let (b, bj, e, n, l) = w.1 in (w.0, (b, bj, e, n, omega arith)))
      (λ a w. let (b, bj, e, n, l) = w.1 in elim (cases_lt b k) [
        | inl lt ↦ (w.0, (b, bj, e, n, lt))
        | inr ge ↦ let q : b ≡ k = omega arith in absurd (f (subst (λ t. Marked next t) q n))
      ])
      u

  pub reach_all : (start row : List Bool) (k : ℕ) → start ≡ replicate 256 false → j < k → Added (Reach k) start row → Begins h i j next row
  reach_all start row k s l u = record {
    size = u.size ∙ ap length s;
    sound = λ a m. elim (u.only a m) [
      | inl w ↦ absurd (unmarked 256 a (subst (λ t. Marked t a) s w))
      | inr w ↦ let (b, bj, e, n, lt) = w.1 in (b, bj, e, n)
    ];
    whole = λ a ia w. let (b, bj, e, n) = w in u.whole a (ia, (b, bj, e, n, omega arith));
  }

module _ (h : ℕ → ℕ → Bool) (i j : ℕ) (before next : List Bool) where
  -- The places of `next` up to j to which a step leads inward from a place below k.
  abbrev pub Reached : ℕ → ℕ → Type 0
  Reached k b = (b ≤ j) × Marked next b × ((a : ℕ) × (i ≤ a) × (a ≤ j) × (h a b ≡ true) × Marked before a × (a < k))

  pub reached_taken : (x y z : List Bool) (k : ℕ) → i ≤ k → k ≤ j → Marked before k
      → Added (Reached k) x y → Added (λ b. (b ≤ j) × (h k b ≡ true) × Marked next b) y z → Added (Reached (k + 1)) x z
  reached_taken x y z k ik kj m u v =
      added_then (Reached k) (λ b. (b ≤ j) × (h k b ≡ true) × Marked next b) (Reached (k + 1)) x y z
      (λ b w. let (a, l, aj, e, n, lt) = w.2 in (w.0, w.1, (a, l, aj, e, n, omega arith)))
      (λ b w. (w.0, w.2, (k, ik, kj, w.1, m, omega arith)))
      (λ b w. let (a, l, aj, e, n, lt) = w.2 in elim (cases_lt a k) [
        | inl lo ↦ inl (w.0, w.1, (a, l, aj, e, n, lo))
        | inr ge ↦ let q : a ≡ k = omega arith in inr (w.0, subst (λ t. h t b ≡ true) q e, w.1)
      ])
      u v

  pub reached_passed : (x y : List Bool) (k : ℕ) → (Marked before k → ⊥) → Added (Reached k) x y → Added (Reached (k + 1)) x y
  reached_passed x y k f u =
      added_as (Reached k) (Reached (k + 1)) x y
      (λ b w. let (a, l, aj, e, n, lt) = w.2 in (w.0, w.1, (a, l, aj, e, n, omega arith)))
      (λ b w. let (a, l, aj, e, n, lt) = w.2 in elim (cases_lt a k) [
        | inl lo ↦ (w.0, w.1, (a, l, aj, e, n, lo))
        | inr ge ↦ let q : a ≡ k = omega arith in absurd (f (subst (λ t. Marked before t) q n))
      ])
      u

  pub reached_all : (start row : List Bool) (k : ℕ) → start ≡ replicate 256 false → j < k → Added (Reached k) start row → Ends h i j before next row
  reached_all start row k s l u = record {
    size = u.size ∙ ap length s;
    sound = λ b m. elim (u.only b m) [
      | inl w ↦ absurd (unmarked 256 b (subst (λ t. Marked t b) s w))
      | inr w ↦ let (a, ia, aj, e, n, lt) = w.2 in (a, ia, aj, e, n)
    ];
    whole = λ b bj n w. let (a, ia, aj, e, m) = w in u.whole b (bj, n, (a, ia, aj, e, m, omega arith));
  }

module _ (f : ℕ → ℕ → ℕ → Bool) (forward : (p a b : ℕ) → f p a b ≡ true → a ≤ b) where
  pub path_forward : {p a q b : ℕ} → Path f p a q b → a ≤ b
  path_forward stay = omega arith
  path_forward {p} {a} (step c h u) = let x = forward p a c h in let y = path_forward u in omega arith

  -- A path to its own part stays.
  pub path_here : {p a q b : ℕ} → q ≤ p → Path f p a q b → a ≡ b
  path_here l stay = refl
  path_here l (step c h u) = let r = path_rises u in absurd (omega arith)

  -- A path to a later part makes a step.
  pub path_on : {p a q b : ℕ} → p < q → Path f p a q b → (c : ℕ) × (f p a c ≡ true) × Path f (p + 1) c q b
  path_on l stay = absurd (omega arith)
  path_on l (step c h u) = (c, h, u)

  -- The last step of a path.
  path_last : {p a q b : ℕ} (k : ℕ) → q ≡ k + 1 → p ≤ k → Path f p a q b → (c : ℕ) × Path f p a k c × (f k c b ≡ true)
  path_last k e l stay = absurd (omega arith)
  path_last {p} {a} {q} {b} k e l (step c h u) =
      elim (cases_lt p k) [
        | inl m ↦ let (d, v, w) = path_last k e (omega arith) u in (d, step c h v, w)
        | inr m ↦
            let i : p ≡ k = omega arith in
            let s : c ≡ b = path_here (omega arith) u in
            let P : ℕ → Type 0 = λ t. Path f p a t a in
            (a, subst P i stay, subst₂ (λ t d. f t a d ≡ true) i s h)
      ]

  pub completes_none : (m i j : ℕ) (rows : List (List Bool)) (row : List Bool) → j < 256 → m ≤ 7
      → rows ≡ replicate 8 row → row ≡ set (replicate 256 false) j true → Completes f m i j rows m
  completes_none m i j rows row jl ml e d = record {
    size = ap length e;
    sound = λ p a mp pm h. let q : p ≡ m = omega arith in
        let s = one_marked j a (get_or rows p []) (row_is p pm) h in
        subst₂ (λ t b. Path f p a t b) q s stay;
    whole = λ p a mp pm ia u. let q : p ≡ m = omega arith in
        let s = path_here (omega arith) u in
        subst (λ t. Marked (get_or rows p []) t) (sym s) (marked_one j (get_or rows p []) (row_is p pm) jl);
  }
    where
      row_is : (p : ℕ) → p ≤ m → get_or rows p [] ≡ set (replicate 256 false) j true
      row_is p l = ap (λ t. get_or t p []) e ∙ get_or-replicate 8 p row [] (omega arith) ∙ d

  pub completes_more : (m i j p : ℕ) (rows : List (List Bool)) (row : List Bool) → p < m → m ≤ 7
      → Begins (f p) i j (get_or rows (p + 1) []) row → Completes f m i j rows (p + 1) → Completes f m i j (set rows p row) p
  completes_more m i j p rows row pm ml b old = record {
    size = length-set rows p row ∙ old.size;
    sound = λ q a pq qm h. elim (cases_lt p q) [
      | inl l ↦ old.sound q a (omega arith) qm (subst (λ t. Marked t a) (other q l) h)
      | inr l ↦
          let e : p ≡ q = omega arith in
          let (c, cj, s, n) = b.sound a (subst (λ t. Marked t a) (here q e) h) in
          subst (λ t. Path f t a m j) e (step c s (old.sound (p + 1) c (omega arith) (omega arith) n))
    ];
    whole = λ q a pq qm ia u. elim (cases_lt p q) [
      | inl l ↦ subst (λ t. Marked t a) (sym (other q l)) (old.whole q a (omega arith) qm ia u)
      | inr l ↦
          let e : p ≡ q = omega arith in
          let (c, s, v) = path_on pm (subst (λ t. Path f t a m j) (sym e) u) in
          let ac = forward p a c s in
          subst (λ t. Marked t a) (sym (here q e))
          (b.whole a ia (c, path_forward v, s, old.whole (p + 1) c (omega arith) (omega arith) (omega arith) v))
    ];
  }
    where
      here : (q : ℕ) → p ≡ q → get_or (set rows p row) q [] ≡ row
      here q e = ap (λ t. get_or (set rows p row) t []) (sym e) ∙ get_or-set_same rows p row [] (let n = old.size in omega arith)

      other : (q : ℕ) → p < q → get_or (set rows p row) q [] ≡ get_or rows q []
      other q l = let ne : q ≢ p = λ e. omega arith in get_or-set_other rows p q row [] ne

  pub leads_none : (m i j : ℕ) (row : List Bool) → i < 256 → row ≡ set (replicate 256 false) i true → Leads f m i j 0 row
  leads_none m i j row il e = record {
    sound = λ a h. subst (λ t. Path f 0 i 0 t) (sym (one_marked i a row e h)) stay;
    whole = λ a u v. subst (λ t. Marked row t) (path_here (omega arith) u) (marked_one i row e il);
  }

  pub leads_more : (m i j p : ℕ) (before row : List Bool) (rows : List (List Bool)) → p < m → Completes f m i j rows 1
      → Ends (f p) i j before (get_or rows (p + 1) []) row → Leads f m i j p before → Leads f m i j (p + 1) row
  leads_more m i j p before row rows pm c b old = record {
    sound = λ k h.
        let (a, ia, aj, s, n) = b.sound k h in
        join (old.sound a n) (one s);
    whole = λ k u v.
        let (a, w, s) = path_last p refl (omega arith) u in
        let ia = path_forward w in
        let ak = forward p a k s in
        let kj = path_forward v in
        b.whole k kj (c.whole (p + 1) k (omega arith) (omega arith) (omega arith) v) (a, ia, omega arith, s, old.whole a w (step k s v));
  }
