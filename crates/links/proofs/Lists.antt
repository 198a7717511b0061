-- Lists by tests, lists of cells and their marks, and lists as they grow and shrink at the end.
use Rattle.std.proofs.Common.{◌≡◌, ℕ, zero, suc, ◌+◌, ◌<◌, ◌≤◌, ◌⊎◌, Bool, true, false, cond, ◌≢◌, Decides, List, [], ◌∷◌, ◌++◌, length, get_or, set, replicate, ◌||◌, is_some, Some, None, Option, sym, refl, ap, ◌∙◌, subst, inl, inr, ⊎_elim, arith, rules, get_or-set_other, get_or-set_same, length-set}
use Rattle.std.proofs.lemmas.Bool.{cases_Bool, cases_eq, cases_lt, false≢true, true≢false, both_ways}
use Rattle.std.specs.List.{list_any}
use Rattle.link_growth.specs.declared.Cell.{Cell}
use Rattle.link_growth.proofs.Members.{mem_left, mem_last, mem_split}
use Rattle.link_growth.specs.Entries.{Mem, head, tail, Once, nil, cons, cell}
use Rattle.links.specs.Listing.{same, listed, distinct, mark}

same_cell : (a b : Cell) → Decides (same a b) (a ≡ b)
same_cell a b = search rules

pub mem_listed : {c : Cell} {xs : List Cell} → Mem c xs → listed c xs ≡ true
unfolding listed
mem_listed {c} (head {xs = xs}) = ap (λ t. cond t true (listed c xs)) ((same_cell c c).1 refl)
mem_listed {c} (tail {x = x} {xs = xs} m) = ⊎_elim
    (λ (e : same c x ≡ true). ap (λ t. cond t true (listed c xs)) e)
    (λ (e : same c x ≡ false). ap (λ t. cond t true (listed c xs)) e ∙ mem_listed m)
    (cases_Bool (same c x))

pub listed_mem : (c : Cell) (xs : List Cell) → listed c xs ≡ true → Mem c xs
unfolding listed
listed_mem c [] e = absurd (false≢true e)
listed_mem c (x ∷ xs) e = ⊎_elim
    (λ (p : same c x ≡ true). subst (λ v. Mem c (v ∷ xs)) ((same_cell c x).0 p) head)
    (λ (p : same c x ≡ false). tail (listed_mem c xs (sym (ap (λ t. cond t true (listed c xs)) p) ∙ e)))
    (cases_Bool (same c x))

pub not_listed : (c : Cell) (xs : List Cell) → (Mem c xs → ⊥) → listed c xs ≡ false
not_listed c xs none = ⊎_elim (λ (p : listed c xs ≡ true). absurd (none (listed_mem c xs p))) (λ p. p) (cases_Bool (listed c xs))

pub listed_not : (c : Cell) (xs : List Cell) → listed c xs ≡ false → Mem c xs → ⊥
listed_not c xs e m = both_ways (listed c xs) e (mem_listed m)

pub distinct_once : (xs : List Cell) → distinct xs ≡ true → Once xs
unfolding distinct
distinct_once [] e = nil
distinct_once (x ∷ xs) e = ⊎_elim
    (λ (p : listed x xs ≡ true). absurd (false≢true (sym (ap (λ t. cond t false (distinct xs)) p) ∙ e)))
    (λ (p : listed x xs ≡ false). cons (listed_not x xs p) (distinct_once xs (sym (ap (λ t. cond t false (distinct xs)) p) ∙ e)))
    (cases_Bool (listed x xs))

pub once_distinct : {xs : List Cell} → Once xs → distinct xs ≡ true
unfolding distinct
once_distinct nil = refl
once_distinct (cons {x = x} {xs = xs} none o) = ap (λ t. cond t false (distinct xs)) (not_listed x xs none) ∙ once_distinct o

nowhere : {A : Type 0} {c x : A} {xs : List A} → Mem c (x ∷ xs) → (Mem x (xs ++ c ∷ []) → ⊥) → (Mem c xs → ⊥) → ⊥
nowhere {c = c} (head {xs = xs}) none q = none (mem_last xs c)
nowhere (tail m) none q = q m

-- The last of a list without repeats is not among the others.
pub once_last : {A : Type 0} (xs : List A) (c : A) → Once (xs ++ c ∷ []) → Once xs × (Mem c xs → ⊥)
once_last [] c o = (nil, λ m. elim m [ ])
once_last (x ∷ xs) c (cons none o) =
    let (p, q) = once_last xs c o in
    (cons (λ m. none (mem_left (c ∷ []) m)) p, λ m. nowhere m none q)

-- The marks of a set after one of them is written.
cell_alike : (a b : Cell) → a.state ≡ b.state → a.place ≡ b.place → a ≡ b
cell_alike a b s p = ap (λ v. cell v a.place) s ∙ ap (λ v. cell b.state v) p

module _ (marks : List (List Bool)) (c : Cell) (b : Bool) (place : c.place < length marks) (state : c.state < length (get_or marks c.place [])) where
  pub mark_here : mark (set marks c.place (set (get_or marks c.place []) c.state b)) c ≡ b
  mark_here = ap (λ (v : List Bool). get_or v c.state false) (get_or-set_same marks c.place (set (get_or marks c.place []) c.state b) [] place)
      ∙ get_or-set_same (get_or marks c.place []) c.state b false state

  pub mark_other : (d : Cell) → (d ≡ c → ⊥) → mark (set marks c.place (set (get_or marks c.place []) c.state b)) d ≡ mark marks d
  mark_other d ne =
      ⊎_elim
      (λ (e : d.place ≡ c.place).
      ap (λ v. get_or (get_or (set marks c.place (set (get_or marks c.place []) c.state b)) v []) d.state false) e
      ∙ ap (λ (v : List Bool). get_or v d.state false) (get_or-set_same marks c.place (set (get_or marks c.place []) c.state b) [] place)
      ∙ get_or-set_other (get_or marks c.place []) c.state d.state b false (λ s. ne (cell_alike d c s e))
      ∙ ap (λ v. get_or (get_or marks v []) d.state false) (sym e))
      (λ (other : d.place ≡ c.place → ⊥).
      ap (λ (v : List Bool). get_or v d.state false) (get_or-set_other marks c.place d.place (set (get_or marks c.place []) c.state b) [] other))
      (cases_eq d.place c.place)

  pub row_kept : (i : ℕ) → length (get_or (set marks c.place (set (get_or marks c.place []) c.state b)) i []) ≡ length (get_or marks i [])
  row_kept i =
      ⊎_elim
      (λ (e : i ≡ c.place).
      ap (λ v. length (get_or (set marks c.place (set (get_or marks c.place []) c.state b)) v [])) e
      ∙ ap (λ (v : List Bool). length v) (get_or-set_same marks c.place (set (get_or marks c.place []) c.state b) [] place)
      ∙ length-set (get_or marks c.place []) c.state b ∙ ap (λ v. length (get_or marks v [])) (sym e))
      (λ (other : i ≡ c.place → ⊥).
      ap (λ (v : List Bool). length v) (get_or-set_other marks c.place i (set (get_or marks c.place []) c.state b) [] other))
      (cases_eq i c.place)

cases_cell : (a b : Cell) → (a ≡ b) ⊎ (a ≡ b → ⊥)
cases_cell a b = ⊎_elim (λ (p : same a b ≡ true). inl ((same_cell a b).0 p)) (λ (p : same a b ≡ false). inr (λ e. both_ways (same a b) p ((same_cell a b).1 e))) (cases_Bool (same a b))

-- A cell more, and a cell less.
pub list_more : (xs : List Cell) (c d : Cell) → (d ≡ c → ⊥) → listed d xs ≡ listed d (xs ++ c ∷ [])
list_more xs c d ne = ⊎_elim
    (λ (p : listed d xs ≡ true). p ∙ sym (mem_listed (mem_left (c ∷ []) (listed_mem d xs p))))
    (λ (p : listed d xs ≡ false). p ∙ sym (not_listed d (xs ++ c ∷ []) (λ m. ⊎_elim (listed_not d xs p) ne (mem_split xs c m))))
    (cases_Bool (listed d xs))

pub mark_more : (marks : List (List Bool)) (xs : List Cell) (c : Cell) → c.place < length marks → c.state < length (get_or marks c.place [])
    → ((d : Cell) → mark marks d ≡ listed d xs) → (d : Cell) → mark (set marks c.place (set (get_or marks c.place []) c.state true)) d ≡ listed d (xs ++ c ∷ [])
mark_more marks xs c place state old d =
    ⊎_elim
    (λ (e : d ≡ c). subst (λ v. mark (set marks c.place (set (get_or marks c.place []) c.state true)) v ≡ listed v (xs ++ c ∷ [])) (sym e) (mark_here marks c true place state ∙ sym (mem_listed (mem_last xs c))))
    (λ (ne : d ≡ c → ⊥). mark_other marks c true place state d ne ∙ old d ∙ list_more xs c d ne)
    (cases_cell d c)

pub mark_less : (marks : List (List Bool)) (xs : List Cell) (c : Cell) → c.place < length marks → c.state < length (get_or marks c.place []) → (Mem c xs → ⊥)
    → ((d : Cell) → mark marks d ≡ listed d (xs ++ c ∷ [])) → (d : Cell) → mark (set marks c.place (set (get_or marks c.place []) c.state false)) d ≡ listed d xs
mark_less marks xs c place state none old d =
    ⊎_elim
    (λ (e : d ≡ c). subst (λ v. mark (set marks c.place (set (get_or marks c.place []) c.state false)) v ≡ listed v xs) (sym e) (mark_here marks c false place state ∙ sym (not_listed c xs none)))
    (λ (ne : d ≡ c → ⊥). mark_other marks c false place state d ne ∙ old d ∙ sym (list_more xs c d ne))
    (cases_cell d c)

-- What holds of the first n entries, and of one put behind them.
pub below_set : {A : Type 0} (P : A → Type 0) (d : A) (xs : List A) (n : ℕ) (x : A) → n < length xs → ((k : ℕ) → k < n → P (get_or xs k d)) → P x
    → (k : ℕ) → k < n + 1 → P (get_or (set xs n x) k d)
below_set P d xs n x room old here k lt =
    ⊎_elim
    (λ (low : k < n). let ne : k ≢ n = omega arith in subst P (sym (get_or-set_other xs n k x d ne)) (old k low))
    (λ (high : n ≤ k). let same : k ≡ n = omega arith in subst (λ v. P (get_or (set xs n x) v d)) (sym same) (subst P (sym (get_or-set_same xs n x d room)) here))
    (cases_lt k n)

-- Lists by a test.
or_false : (a b : Bool) → (a || b) ≡ false → (a ≡ false) × (b ≡ false)
or_false false b e = (refl, e)
or_false true b e = absurd (true≢false e)

pub none_of : {A : Type 0} (p : A → Bool) (xs : List A) {y : A} → list_any p xs ≡ false → Mem y xs → p y ≡ false
none_of p [] e m = elim m [ ]
none_of p (x ∷ xs) e head = (or_false (p x) (list_any p xs) e).0
none_of p (x ∷ xs) e (tail m) = none_of p xs (or_false (p x) (list_any p xs) e).1 m

pub one_of : {A : Type 0} (p : A → Bool) (xs : List A) → list_any p xs ≡ true → (y : A) × Mem y xs × (p y ≡ true)
one_of p [] e = absurd (false≢true e)
one_of p (x ∷ xs) e = ⊎_elim
    (λ (h : p x ≡ true). (x, head, h))
    (λ (h : p x ≡ false). let (y, m, is) = one_of p xs (sym (ap (λ v. v || list_any p xs) h) ∙ e) in (y, tail m, is))
    (cases_Bool (p x))

-- Options by a test.
pub some_not : {A : Type 0} (o : Option A) → is_some o ≡ true → o ≢ None
some_not o e n = false≢true (sym (ap is_some n) ∙ e)

pub is_none : {A : Type 0} (o : Option A) → is_some o ≡ false → o ≡ None
is_none None e = refl
is_none (Some x) e = absurd (true≢false e)

-- No cell is marked at first.
alike : {A : Type 0} (n k : ℕ) (x : A) → get_or (replicate n x) k x ≡ x
alike zero k x = refl
alike (suc n) zero x = refl
alike (suc n) (suc k) x = alike n k x

pub no_mark : (m n p s : ℕ) → get_or (get_or (replicate m (replicate n false)) p []) s false ≡ false
no_mark zero n p s = refl
no_mark (suc m) n zero s = alike n s false
no_mark (suc m) n (suc p) s = no_mark m n p s

pub cell_is : {c : Cell} {s p : ℕ} → s ≡ c.state → p ≡ c.place → cell s p ≡ c
cell_is {c} {s} {p} e f = cell_alike (cell s p) c e f
