-- The runs of a text are exactly its stretches.
use Rattle.std.proofs.Common.{◌≡◌, ℕ, zero, suc, ◌+◌, ◌-◌, ◌<◌, ◌≤◌, Bool, true, false, cond, not, ◌⊎◌, List, [], ◌∷◌, length, get_or, sym, refl, ap, ◌∙◌, subst, inl, inr, arith}
use Rattle.std.proofs.lemmas.Bool.{cases_Bool, cases_lt, cases_order, both_ways, not-true, false≢true}
use Rattle.std.proofs.lemmas.Bool.Decides.{nat_tests}
use Rattle.words.specs.Bytes.{is_blank, opens_remark, ends_remark}
use Rattle.words.specs.Runs.{unremarked, front, begun, runs}
use Rattle.words.specs.Stretches.{InRemark, Solid, Stretch, Among, Splitting}
use Rattle.words.proofs.Scanning.{space_blank}
use Rattle.words.proofs.Standing.{line_feed_blank}

-- Whether the byte at k of some bytes is there and no blank.
abbrev solid_at : List ℕ → ℕ → Bool
solid_at [] k = false
solid_at (z ∷ zs) zero = not (is_blank z)
solid_at (z ∷ zs) (suc k) = solid_at zs k

-- Of a test F of places: a stretch where it is true, and bytes zs from the place i on that it is the test of.
record StretchOf (F : ℕ → Bool) (p q : ℕ) : Type 0 where
  some : p < q
  solid : (k : ℕ) → p ≤ k → k < q → F k ≡ true
  begins : (k : ℕ) → k + 1 ≡ p → F k ≡ false
  ends : F q ≡ false

abbrev Tests : (ℕ → Bool) → ℕ → List ℕ → Type 0
Tests F i zs = (k : ℕ) → F (i + k) ≡ solid_at zs k

module _ (F : ℕ → Bool) where
  -- The test at a place at i or behind it.
  at : (i k : ℕ) (zs : List ℕ) → Tests F i zs → i ≤ k → F k ≡ solid_at zs (k - i)
  at i k zs h l = ap F (let e : k ≡ i + (k - i) = omega arith in e) ∙ h (k - i)

  tests_head : (i z : ℕ) (zs : List ℕ) → Tests F i (z ∷ zs) → F i ≡ not (is_blank z)
  tests_head i z zs h = ap F (let e : i ≡ i + 0 = omega arith in e) ∙ h 0

  tests_tail : (i z : ℕ) (zs : List ℕ) → Tests F i (z ∷ zs) → Tests F (i + 1) zs
  tests_tail i z zs h k = ap F (let e : i + 1 + k ≡ i + suc k = omega arith in e) ∙ h (suc k)

  -- The bytes before the first blank.
  front_solid : (i : ℕ) (zs : List ℕ) → Tests F i zs → (k : ℕ) → i ≤ k → k < i + length (front zs) → F k ≡ true
  front_solid i [] h k l m = absurd (omega arith)
  front_solid i (z ∷ zs) h k l m =
      elim (cases_Bool (is_blank z)) [
        | inl e ↦ absurd (let n : k < i + 0 = simp e at m in omega arith)
        | inr e ↦
            elim (cases_lt i k) [
              | inl n ↦ front_solid (i + 1) zs (tests_tail i z zs h) k (omega arith) (let o : k < i + suc (length (front zs)) = simp e at m in omega arith)
              | inr n ↦ ap F (let j : k ≡ i = omega arith in j) ∙ tests_head i z zs h ∙ ap not e
            ]
      ]

  front_ends : (i : ℕ) (zs : List ℕ) → Tests F i zs → F (i + length (front zs)) ≡ false
  front_ends i [] h = h 0
  front_ends i (z ∷ zs) h =
      elim (cases_Bool (is_blank z)) [
        | inl e ↦ simp e (h 0 ∙ ap not e)
        | inr e ↦ simp e (ap F (let j : i + suc (length (front zs)) ≡ i + 1 + length (front zs) = omega arith in j) ∙ front_ends (i + 1) zs (tests_tail i z zs h))
      ]

  -- What stands before i: a byte of a run that is open there, or none.
  record Before (i : ℕ) (o : Bool) : Type 0 where
    last : (k : ℕ) → k + 1 ≡ i → F k ≡ o
    some : o ≡ true → 0 < i

  next : (i z : ℕ) (zs : List ℕ) (o : Bool) → Tests F i (z ∷ zs) → not (is_blank z) ≡ o → Before (i + 1) o
  next i z zs o h e = record { last = λ k f. ap F (let j : k ≡ i = omega arith in j) ∙ tests_head i z zs h ∙ e; some = λ _. omega arith }

  -- Two stretches that begin together end together.
  one_end : (p q r : ℕ) → ((k : ℕ) → p ≤ k → k < q → F k ≡ true) → F q ≡ false → ((k : ℕ) → p ≤ k → k < r → F k ≡ true) → F r ≡ false → p ≤ q → p ≤ r → q ≡ r
  one_end p q r a b c d l m =
      elim (cases_order q r) [
        | inl e ↦ e
        | inr (inl e) ↦ absurd (both_ways (F q) b (c q l e))
        | inr (inr e) ↦ absurd (both_ways (F r) d (a r m e))
      ]

  -- A stretch at i or behind it, whose first byte is none, lies behind it.
  further : (i p q : ℕ) → StretchOf F p q → i ≤ p → (p ≡ i → ⊥) → i + 1 ≤ p
  further i p q s l n = elim (cases_lt i p) [ inl m ↦ omega arith | inr m ↦ absurd (n (omega arith)) ]

  -- The run that begins at i.
  here : (i z : ℕ) (zs : List ℕ) → Tests F i (z ∷ zs) → Before i false → is_blank z ≡ false → StretchOf F i (i + length (front (z ∷ zs)))
  here i z zs h b e = record {
    some = simp e (omega arith);
    solid = λ k l m. front_solid i (z ∷ zs) h k l m;
    begins = λ k f. b.last k f;
    ends = front_ends i (z ∷ zs) h;
  }

  found_solid : (i z : ℕ) (zs : List ℕ) (p q : ℕ) (o : Bool) → Tests F i (z ∷ zs) → Before i o → is_blank z ≡ false → (Among (begun (i + 1) true zs) p q → StretchOf F p q × (i + 1 ≤ p)) → Among (cond o (begun (i + 1) true zs) (record { from = i; bytes = front (z ∷ zs) } ∷ begun (i + 1) true zs)) p q → StretchOf F p q × (i ≤ p)
  found_solid i z zs p q true h b e later m = let k = later m in (k.0, omega (arith, k.1))
  found_solid i z zs p q false h b e later (inl m) = (subst (λ x. StretchOf F x q) m.0 (subst (StretchOf F i) m.1 (here i z zs h b e)), omega (arith, m.0))
  found_solid i z zs p q false h b e later (inr m) = let k = later m in (k.0, omega (arith, k.1))

  -- By the first byte: a blank, or a byte of a run.
  found_by : (i z : ℕ) (zs : List ℕ) (p q : ℕ) (o a : Bool) → Tests F i (z ∷ zs) → Before i o → is_blank z ≡ a → (Among (begun (i + 1) false zs) p q → Before (i + 1) false → StretchOf F p q × (i + 1 ≤ p)) → (Among (begun (i + 1) true zs) p q → Before (i + 1) true → StretchOf F p q × (i + 1 ≤ p)) → Among (cond a (begun (i + 1) false zs) (cond o (begun (i + 1) true zs) (record { from = i; bytes = front (z ∷ zs) } ∷ begun (i + 1) true zs))) p q → StretchOf F p q × (i ≤ p)
  found_by i z zs p q o true h b e shut going m = let k = shut m (next i z zs false h (ap not e)) in (k.0, omega (arith, k.1))
  found_by i z zs p q o false h b e shut going m = found_solid i z zs p q o h b e (λ n. going n (next i z zs true h (ap not e))) m

  found : (i : ℕ) (o : Bool) (zs : List ℕ) (p q : ℕ) → Tests F i zs → Before i o → Among (begun i o zs) p q → StretchOf F p q × (i ≤ p)
  found i o [] p q h b m = absurd m
  found i o (z ∷ zs) p q h b m =
      let t = tests_tail i z zs h in
      found_by i z zs p q o (is_blank z) h b refl (λ n c. found (i + 1) false zs p q t c n) (λ n c. found (i + 1) true zs p q t c n) m

  -- The other way.
  among_solid : (i z : ℕ) (zs : List ℕ) (p q : ℕ) (o : Bool) → Tests F i (z ∷ zs) → Before i o → is_blank z ≡ false → StretchOf F p q → i ≤ p → (i + 1 ≤ p → Among (begun (i + 1) true zs) p q) → Among (cond o (begun (i + 1) true zs) (record { from = i; bytes = front (z ∷ zs) } ∷ begun (i + 1) true zs)) p q
  among_solid i z zs p q true h b e s l later =
      let pos = b.some refl in
      let f : i - 1 + 1 ≡ i = omega arith in
      later (further i p q s l (λ n. both_ways (F (i - 1)) (s.begins (i - 1) (omega arith)) (b.last (i - 1) f)))
  among_solid i z zs p q false h b e s l later =
      let r = here i z zs h b e in
      elim (cases_lt i p) [
        | inl n ↦ inr (later (omega arith))
        | inr n ↦
            let f : i ≡ p = omega arith in
            let t = subst (λ x. StretchOf F x q) (sym f) s in
            inl (f, one_end i (i + length (front (z ∷ zs))) q r.solid r.ends t.solid t.ends (omega arith) (omega (arith, t.some)))
      ]

  among_by : (i z : ℕ) (zs : List ℕ) (p q : ℕ) (o a : Bool) → Tests F i (z ∷ zs) → Before i o → is_blank z ≡ a → StretchOf F p q → i ≤ p → (i + 1 ≤ p → Before (i + 1) false → Among (begun (i + 1) false zs) p q) → (i + 1 ≤ p → Before (i + 1) true → Among (begun (i + 1) true zs) p q) → Among (cond a (begun (i + 1) false zs) (cond o (begun (i + 1) true zs) (record { from = i; bytes = front (z ∷ zs) } ∷ begun (i + 1) true zs))) p q
  among_by i z zs p q o true h b e s l shut going =
      shut (further i p q s l (λ n. both_ways (F p) (ap F n ∙ tests_head i z zs h ∙ ap not e) (s.solid p (omega arith) s.some))) (next i z zs false h (ap not e))
  among_by i z zs p q o false h b e s l shut going = among_solid i z zs p q o h b e s l (λ n. going n (next i z zs true h (ap not e)))

  among : (i : ℕ) (o : Bool) (zs : List ℕ) (p q : ℕ) → Tests F i zs → Before i o → StretchOf F p q → i ≤ p → Among (begun i o zs) p q
  among i o [] p q h b s l = both_ways (F p) (at i p [] h l) (s.solid p (omega arith) s.some)
  among i o (z ∷ zs) p q h b s l =
      let t = tests_tail i z zs h in
      among_by i z zs p q o (is_blank z) h b refl s l (λ n c. among (i + 1) false zs p q t c s n) (λ n c. among (i + 1) true zs p q t c s n)

-- Whether a remark is open behind the byte b, where m says whether one is open before it.
abbrev remark_behind : Bool → ℕ → Bool
remark_behind true b = not (ends_remark b)
remark_behind false b = opens_remark b

solid_tail : (m : Bool) (b : ℕ) (xs : List ℕ) (k : ℕ) → solid_at (unremarked m (b ∷ xs)) (suc k) ≡ solid_at (unremarked (remark_behind m b) xs) k
solid_tail true b xs k = elim (cases_Bool (ends_remark b)) [ inl e ↦ simp e | inr e ↦ simp e ]
solid_tail false b xs k = elim (cases_Bool (opens_remark b)) [ inl e ↦ simp e | inr e ↦ simp e ]

-- No byte both opens and ends a remark.
opens_not_ends : (b : ℕ) → opens_remark b ≡ true → ends_remark b ≡ false
unfolding opens_remark ends_remark
opens_not_ends b e = grind (arith, nat_tests)

-- A remark that is open before the bytes lasts up to k, or one opens among them.
abbrev Covered : Bool → List ℕ → ℕ → Type 0
Covered m xs k = InRemark xs k ⊎ ((m ≡ true) × ((l : ℕ) → l ≤ k → ends_remark (get_or xs l 0) ≡ false))

lasts_down : (b : ℕ) (xs : List ℕ) (h k : ℕ) → ((l : ℕ) → h ≤ l → l ≤ k → ends_remark (get_or xs l 0) ≡ false) → (l : ℕ) → suc h ≤ l → l ≤ suc k → ends_remark (get_or (b ∷ xs) l 0) ≡ false
lasts_down b xs h k f zero p q = absurd (omega arith)
lasts_down b xs h k f (suc l) p q = f l (omega arith) (omega arith)

all_down : (b : ℕ) (xs : List ℕ) (k : ℕ) → ends_remark b ≡ false → ((l : ℕ) → l ≤ k → ends_remark (get_or xs l 0) ≡ false) → (l : ℕ) → l ≤ suc k → ends_remark (get_or (b ∷ xs) l 0) ≡ false
all_down b xs k e f zero p = e
all_down b xs k e f (suc l) p = f l (omega arith)

remark_down : (b : ℕ) (xs : List ℕ) (k : ℕ) → InRemark xs k → InRemark (b ∷ xs) (suc k)
remark_down b xs k r = record { hash = suc r.hash; before = omega (arith, r.before); opens = r.opens; lasts = lasts_down b xs r.hash k r.lasts }

covered_down : (m : Bool) (b : ℕ) (xs : List ℕ) (k : ℕ) → Covered (remark_behind m b) xs k → Covered m (b ∷ xs) (suc k)
covered_down true b xs k (inl r) = inl (remark_down b xs k r)
covered_down true b xs k (inr r) = inr (refl, all_down b xs k (not-true (ends_remark b) r.0) r.1)
covered_down false b xs k (inl r) = inl (remark_down b xs k r)
covered_down false b xs k (inr r) = inl (record { hash = 0; before = omega arith; opens = r.0; lasts = λ l _ n. all_down b xs k (opens_not_ends b r.0) r.1 l n })

-- And the other way.
hash_up : (m : Bool) (b : ℕ) (xs : List ℕ) (k h : ℕ) → h ≤ suc k → opens_remark (get_or (b ∷ xs) h 0) ≡ true → ((l : ℕ) → h ≤ l → l ≤ suc k → ends_remark (get_or (b ∷ xs) l 0) ≡ false) → Covered (remark_behind m b) xs k
hash_up true b xs k zero p o f = inr (ap not (f 0 (omega arith) (omega arith)), λ l n. f (suc l) (omega arith) (omega arith))
hash_up false b xs k zero p o f = inr (o, λ l n. f (suc l) (omega arith) (omega arith))
hash_up true b xs k (suc h) p o f = inl (record { hash = h; before = omega arith; opens = o; lasts = λ l a n. f (suc l) (omega arith) (omega arith) })
hash_up false b xs k (suc h) p o f = inl (record { hash = h; before = omega arith; opens = o; lasts = λ l a n. f (suc l) (omega arith) (omega arith) })

covered_up : (m : Bool) (b : ℕ) (xs : List ℕ) (k : ℕ) → Covered m (b ∷ xs) (suc k) → Covered (remark_behind m b) xs k
covered_up true b xs k (inl r) = hash_up true b xs k r.hash r.before r.opens r.lasts
covered_up true b xs k (inr r) = inr (ap not (r.1 0 (omega arith)), λ l n. r.1 (suc l) (omega arith))
covered_up false b xs k (inl r) = hash_up false b xs k r.hash r.before r.opens r.lasts
covered_up false b xs k (inr r) = absurd (false≢true r.0)

-- A byte that is one of a word, where m says whether a remark is open before the bytes.
record SolidIn (m : Bool) (xs : List ℕ) (k : ℕ) : Type 0 where
  there : k < length xs
  no_blank : is_blank (get_or xs k 0) ≡ false
  no_cover : Covered m xs k → ⊥

first_covered : (b : ℕ) (xs : List ℕ) → ends_remark b ≡ false → (l : ℕ) → l ≤ 0 → ends_remark (get_or (b ∷ xs) l 0) ≡ false
first_covered b xs e zero h = e
first_covered b xs e (suc l) h = absurd (omega arith)

no_hash : (b : ℕ) (xs : List ℕ) → opens_remark b ≡ false → (h : ℕ) → h ≤ 0 → opens_remark (get_or (b ∷ xs) h 0) ≡ true → ⊥
no_hash b xs e zero h f = both_ways (opens_remark b) e f
no_hash b xs e (suc k) h f = omega arith

solid_first : (m : Bool) (b : ℕ) (xs : List ℕ) → solid_at (unremarked m (b ∷ xs)) 0 ≡ true → SolidIn m (b ∷ xs) 0
solid_first true b xs e =
    elim (cases_Bool (ends_remark b)) [
      | inl f ↦ absurd (false≢true (simp (f, line_feed_blank b f) at e))
      | inr f ↦ absurd (false≢true (simp (f, space_blank) at e))
    ]
solid_first false b xs e =
    elim (cases_Bool (opens_remark b)) [
      | inl f ↦ absurd (false≢true (simp (f, space_blank) at e))
      | inr f ↦
          record {
            there = omega arith;
            no_blank = not-true (is_blank b) (simp f at e);
            no_cover = λ c. elim c [ inl r ↦ no_hash b xs f r.hash r.before r.opens | inr r ↦ false≢true r.0 ];
          }
    ]

solid_to : (m : Bool) (xs : List ℕ) (k : ℕ) → solid_at (unremarked m xs) k ≡ true → SolidIn m xs k
solid_to true [] k e = absurd (false≢true e)
solid_to false [] k e = absurd (false≢true e)
solid_to m (b ∷ xs) zero e = solid_first m b xs e
solid_to m (b ∷ xs) (suc k) e =
    let s = solid_to (remark_behind m b) xs k (sym (solid_tail m b xs k) ∙ e) in
    record { there = omega (arith, s.there); no_blank = s.no_blank; no_cover = λ c. s.no_cover (covered_up m b xs k c) }

first_solid : (m : Bool) (b : ℕ) (xs : List ℕ) → SolidIn m (b ∷ xs) 0 → solid_at (unremarked m (b ∷ xs)) 0 ≡ true
first_solid true b xs s =
    elim (cases_Bool (ends_remark b)) [
      | inl f ↦ absurd (both_ways (is_blank b) s.no_blank (line_feed_blank b f))
      | inr f ↦ absurd (s.no_cover (inr (refl, first_covered b xs f)))
    ]
first_solid false b xs s =
    elim (cases_Bool (opens_remark b)) [
      | inl f ↦ absurd (s.no_cover (inl (record { hash = 0; before = omega arith; opens = f; lasts = λ l _ n. first_covered b xs (opens_not_ends b f) l n })))
      | inr f ↦ simp f (ap not s.no_blank)
    ]

solid_from : (m : Bool) (xs : List ℕ) (k : ℕ) → SolidIn m xs k → solid_at (unremarked m xs) k ≡ true
solid_from m [] k s = absurd (omega (arith, s.there))
solid_from m (b ∷ xs) zero s = first_solid m b xs s
solid_from m (b ∷ xs) (suc k) s =
    solid_tail m b xs k
    ∙ solid_from (remark_behind m b) xs k (record { there = omega (arith, s.there); no_blank = s.no_blank; no_cover = λ c. s.no_cover (covered_down m b xs k c) })

module _ (xs : List ℕ) where
  abbrev solid? : ℕ → Bool
  solid? k = solid_at (unremarked false xs) k

  is_solid : (k : ℕ) → solid? k ≡ true → Solid xs k
  is_solid k e = let s = solid_to false xs k e in record { there = s.there; no_blank = s.no_blank; no_remark = λ r. s.no_cover (inl r) }

  tests_solid : (k : ℕ) → Solid xs k → solid? k ≡ true
  tests_solid k s =
      solid_from false xs k
      (record { there = s.there; no_blank = s.no_blank; no_cover = λ c. elim c [ inl r ↦ s.no_remark r | inr r ↦ false≢true r.0 ] })

  not_solid : (k : ℕ) → (Solid xs k → ⊥) → solid? k ≡ false
  not_solid k n = elim (cases_Bool (solid? k)) [ inl e ↦ absurd (n (is_solid k e)) | inr e ↦ e ]

  tests : Tests solid? 0 (unremarked false xs)
  tests k = ap solid? (let e : 0 + k ≡ k = omega arith in e)

  nothing_before : Before solid? 0 false
  nothing_before = record { last = λ k e. absurd (omega arith); some = λ e. absurd (false≢true e) }

  to_stretch : (p q : ℕ) → Among (runs 0 xs) p q → Stretch xs p q
  to_stretch p q m =
      let s = (found solid? 0 false (unremarked false xs) p q tests nothing_before m).0 in
      record {
        some = s.some;
        solid = λ k a b. is_solid k (s.solid k a b);
        begins = λ k e h. both_ways (solid? k) (s.begins k e) (tests_solid k h);
        ends = λ h. both_ways (solid? q) s.ends (tests_solid q h);
      }

  from_stretch : (p q : ℕ) → Stretch xs p q → Among (runs 0 xs) p q
  from_stretch p q s =
      among solid? 0 false (unremarked false xs) p q tests nothing_before
      (record {
        some = s.some;
        solid = λ k a b. tests_solid k (s.solid k a b);
        begins = λ k e. not_solid k (s.begins k e);
        ends = not_solid q s.ends;
      })
      (omega arith)

pub splitting : Splitting
splitting xs p q = (to_stretch xs p q, from_stretch xs p q)
