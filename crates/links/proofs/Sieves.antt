-- What a test picks of a list.
use Rattle.std.proofs.Common.{◌≡◌, ℕ, zero, suc, ◌+◌, ◌<◌, ◌≤◌, ◌≢◌, ◌↔◌, nat_eq, nat_le, Bool, true, false, cond, List, [], ◌∷◌, length, filter, get_or, take, drop, sym, refl, ap, ◌∙◌, subst, ⊎_elim, arith}
use Rattle.std.proofs.lemmas.Bool.{cases_Bool, leb-true, eqb-true, le-leb, eq-eqb}
use Rattle.link_growth.specs.declared.Link.{Link}
use Rattle.link_growth.specs.Entries.{Mem, head, tail, Once, nil, cons}
use Rattle.link_growth.proofs.Members.{mem_index}
use Rattle.links.specs.Placing.{up_to, at_place}

-- The links ys are those of the links xs that are at the place p.
abbrev pub OfPlace : List Link → ℕ → List Link → Type 0
OfPlace xs p ys = (l : Link) → Mem l ys ↔ (Mem l xs × (l.place ≡ p))

passed : {A : Type 0} (p : A → Bool) (x : A) (xs : List A) → p x ≡ true → filter p (x ∷ xs) ≡ x ∷ filter p xs
passed p x xs e = ap (λ b. cond b (x ∷ filter p xs) (filter p xs)) e

left : {A : Type 0} (p : A → Bool) (x : A) (xs : List A) → p x ≡ false → filter p (x ∷ xs) ≡ filter p xs
left p x xs e = ap (λ b. cond b (x ∷ filter p xs) (filter p xs)) e

more : {A : Type 0} {y x : A} {xs ys : List A} {P : Type 0} → Mem y (x ∷ ys) → (Mem y ys → Mem y xs × P) → (y ≡ x → P) → Mem y (x ∷ xs) × P
more head f g = (head, g refl)
more (tail m) f g = let r = f m in (tail r.0, r.1)

pub sieve_mem : {A : Type 0} (p : A → Bool) (xs : List A) {y : A} → Mem y (filter p xs) → Mem y xs × (p y ≡ true)
sieve_mem p [] m = elim m [ ]
sieve_mem p (x ∷ xs) {y} m = ⊎_elim
    (λ (e : p x ≡ true). more (subst (λ v. Mem y v) (passed p x xs e) m) (sieve_mem p xs) (λ (is : y ≡ x). ap p is ∙ e))
    (λ (e : p x ≡ false). let r = sieve_mem p xs (subst (λ v. Mem y v) (left p x xs e) m) in (tail r.0, r.1))
    (cases_Bool (p x))

pub mem_sieve : {A : Type 0} (p : A → Bool) {y : A} {xs : List A} → Mem y xs → p y ≡ true → Mem y (filter p xs)
mem_sieve p {y} (head {xs = xs}) e = subst (λ v. Mem y v) (sym (passed p y xs e)) head
mem_sieve p {y} (tail {x = x} {xs = xs} m) e = ⊎_elim
    (λ (q : p x ≡ true). subst (λ v. Mem y v) (sym (passed p x xs q)) (tail (mem_sieve p m e)))
    (λ (q : p x ≡ false). subst (λ v. Mem y v) (sym (left p x xs q)) (mem_sieve p m e))
    (cases_Bool (p x))

pub sieve_once : {A : Type 0} (p : A → Bool) {xs : List A} → Once xs → Once (filter p xs)
sieve_once p nil = nil
sieve_once p (cons {x = x} {xs = xs} none o) = ⊎_elim
    (λ (e : p x ≡ true). subst (λ v. Once v) (sym (passed p x xs e)) (cons (λ m. none (sieve_mem p xs m).0) (sieve_once p o)))
    (λ (e : p x ≡ false). subst (λ v. Once v) (sym (left p x xs e)) (sieve_once p o))
    (cases_Bool (p x))

-- What passes stands in one piece.
pub sieve_none : {A : Type 0} (p : A → Bool) (d : A) (xs : List A) → ((k : ℕ) → k < length xs → p (get_or xs k d) ≡ false) → filter p xs ≡ []
sieve_none p d [] f = refl
sieve_none p d (x ∷ xs) f = left p x xs (f 0 (omega arith)) ∙ sieve_none p d xs (λ k lt. f (suc k) (omega arith))

pub sieve_front : {A : Type 0} (p : A → Bool) (d : A) (xs : List A) (n : ℕ) → ((k : ℕ) → k < n → k < length xs → p (get_or xs k d) ≡ true)
    → ((k : ℕ) → n ≤ k → k < length xs → p (get_or xs k d) ≡ false) → filter p xs ≡ take n xs
sieve_front p d xs zero inside beyond = sieve_none p d xs (λ k lt. beyond k (omega arith) lt)
sieve_front p d [] (suc n) inside beyond = refl
sieve_front p d (x ∷ xs) (suc n) inside beyond =
    passed p x xs (inside 0 (omega arith) (omega arith))
    ∙ ap (λ v. x ∷ v) (sieve_front p d xs n (λ k lt h. inside (suc k) (omega arith) (omega arith)) (λ k le h. beyond (suc k) (omega arith) (omega arith)))

take_none : {A : Type 0} (n : ℕ) → take {A = A} n [] ≡ []
take_none zero = refl
take_none (suc n) = refl

pub sieve_piece : {A : Type 0} (p : A → Bool) (d : A) (xs : List A) (m n : ℕ) → ((k : ℕ) → k < m → k < length xs → p (get_or xs k d) ≡ false)
    → ((k : ℕ) → k < n → m + k < length xs → p (get_or xs (m + k) d) ≡ true)
    → ((k : ℕ) → m + n ≤ k → k < length xs → p (get_or xs k d) ≡ false) → filter p xs ≡ take n (drop m xs)
sieve_piece p d xs zero n low inside beyond =
    sieve_front p d xs n (λ k lt h. let e : 0 + k ≡ k = omega arith in subst (λ v. p (get_or xs v d) ≡ true) e (inside k lt (omega arith))) (λ k le h. beyond k (omega arith) h)
sieve_piece p d [] (suc m) n low inside beyond = sym (take_none n)
sieve_piece p d (x ∷ xs) (suc m) n low inside beyond =
    left p x xs (low 0 (omega arith) (omega arith))
    ∙ sieve_piece p d xs m n (λ k lt h. low (suc k) (omega arith) (omega arith))
    (λ k lt h. let e : suc m + k ≡ suc (m + k) = omega arith in subst (λ v. p (get_or (x ∷ xs) v d) ≡ true) e (inside k lt (omega arith)))
    (λ k le h. beyond (suc k) (omega arith) (omega arith))

-- A list whose entries differ by their indices.
pub apart_once : {A : Type 0} (d : A) (xs : List A) → ((h k : ℕ) → h < k → k < length xs → get_or xs h d ≢ get_or xs k d) → Once xs
apart_once d [] f = nil
apart_once d (x ∷ xs) f =
    cons (λ m. let (k, lt, e) = mem_index d m in f 0 (suc k) (omega arith) (omega arith) (sym e))
    (apart_once d xs (λ h k lt le. f (suc h) (suc k) (omega arith) (omega arith)))

-- By place.
pub at_place_members : (xs : List Link) (p : ℕ) → OfPlace xs p (at_place p xs)
unfolding at_place
at_place_members xs p l = (
  (λ m. let r = sieve_mem (λ (l : Link). nat_eq l.place p) xs m in (r.0, eqb-true l.place p r.1)),
  (λ r. mem_sieve (λ (l : Link). nat_eq l.place p) r.0 (eq-eqb l.place p r.1)),
)

pub up_to_mem : (k : ℕ) (xs : List Link) {l : Link} → Mem l (up_to k xs) → Mem l xs × (l.place ≤ k)
unfolding up_to
up_to_mem k xs {l} m = let r = sieve_mem (λ (l : Link). nat_le l.place k) xs m in (r.0, leb-true l.place k r.1)

pub mem_up_to : (k : ℕ) {xs : List Link} {l : Link} → Mem l xs → l.place ≤ k → Mem l (up_to k xs)
unfolding up_to
mem_up_to k {l = l} m le = mem_sieve (λ (l : Link). nat_le l.place k) m (le-leb l.place k le)

pub up_to_once : (k : ℕ) {xs : List Link} → Once xs → Once (up_to k xs)
unfolding up_to
up_to_once k o = sieve_once (λ (l : Link). nat_le l.place k) o

pub at_place_is : {xs ys : List Link} {p : ℕ} → ys ≡ at_place p xs → OfPlace xs p ys
at_place_is {xs} {p = p} e = subst (λ v. OfPlace xs p v) (sym e) (at_place_members xs p)
