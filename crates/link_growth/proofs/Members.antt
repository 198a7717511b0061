-- Members of lists, by index and by growth.
use Rattle.std.proofs.Common.{◌≡◌, ℕ, zero, suc, ◌<◌, ◌≤◌, ◌⊎◌, List, [], ◌∷◌, ◌++◌, length, get_or, take, drop, sym, refl, ◌∙◌, subst, inl, inr, ⊎_elim, arith, length-take-le, get_or-take}
use Rattle.link_growth.specs.Entries.{Mem, head, tail, Once, nil, cons}

pub mem_at : {A : Type 0} (xs : List A) (k : ℕ) (d : A) → k < length xs → Mem (get_or xs k d) xs
mem_at [] k d h = absurd (omega arith)
mem_at (x ∷ xs) zero d h = head
mem_at (x ∷ xs) (suc k) d h = tail (mem_at xs k d (omega arith))

pub mem_index : {A : Type 0} {y : A} {xs : List A} (d : A) → Mem y xs → (k : ℕ) × (k < length xs) × (get_or xs k d ≡ y)
mem_index d head = (0, omega arith, refl)
mem_index d (tail m) = let (k, h, e) = mem_index d m in (suc k, omega arith, e)

-- In the first n of xs.
pub mem_take : {A : Type 0} (xs : List A) (n k : ℕ) (d : A) → n ≤ length xs → k < n → Mem (get_or xs k d) (take n xs)
mem_take xs n k d h lt =
    let long = length-take-le n xs h in
    subst (λ v. Mem v (take n xs)) (get_or-take n xs k d lt) (mem_at (take n xs) k d (omega arith))

pub take_index : {A : Type 0} {y : A} (xs : List A) (n : ℕ) (d : A) → n ≤ length xs → Mem y (take n xs)
    → (k : ℕ) × (k < n) × (get_or xs k d ≡ y)
take_index xs n d h m =
    let (k, lt, e) = mem_index d m in
    let long = length-take-le n xs h in
    let low : k < n = omega arith in
    (k, low, sym (get_or-take n xs k d low) ∙ e)

pub mem_left : {A : Type 0} {y : A} {xs : List A} (ys : List A) → Mem y xs → Mem y (xs ++ ys)
mem_left ys head = head
mem_left ys (tail m) = tail (mem_left ys m)

pub mem_last : {A : Type 0} (xs : List A) (y : A) → Mem y (xs ++ y ∷ [])
mem_last [] y = head
mem_last (x ∷ xs) y = tail (mem_last xs y)

pub mem_split : {A : Type 0} {y : A} (xs : List A) (z : A) → Mem y (xs ++ z ∷ []) → Mem y xs ⊎ (y ≡ z)
mem_split [] z head = inr refl
mem_split [] z (tail m) = elim m [ ]
mem_split (x ∷ xs) z head = inl head
mem_split (x ∷ xs) z (tail m) = ⊎_elim (λ n. inl (tail n)) inr (mem_split xs z m)

pub once_push : {A : Type 0} (xs : List A) (z : A) → Once xs → (Mem z xs → ⊥) → Once (xs ++ z ∷ [])
once_push [] z o n = cons n o
once_push (x ∷ xs) z (cons nx o) n =
    cons (λ m. ⊎_elim nx (λ e. n (subst (λ v. Mem v (x ∷ xs)) e head)) (mem_split xs z m)) (once_push xs z o (λ m. n (tail m)))

-- The first n.
pub mem_front : {A : Type 0} {y : A} (n : ℕ) (xs : List A) → Mem y (take n xs) → Mem y xs
mem_front zero xs m = elim m [ ]
mem_front (suc n) [] m = m
mem_front (suc n) (x ∷ xs) head = head
mem_front (suc n) (x ∷ xs) (tail m) = tail (mem_front n xs m)

pub once_front : {A : Type 0} (n : ℕ) {xs : List A} → Once xs → Once (take n xs)
once_front zero o = nil
once_front (suc n) nil = nil
once_front (suc n) (cons {xs = xs} x o) = cons (λ m. x (mem_front n xs m)) (once_front n o)

-- The first n, and the rest.
pub mem_drop : {A : Type 0} {y : A} (n : ℕ) (xs : List A) → Mem y (drop n xs) → Mem y xs
mem_drop zero xs m = m
mem_drop (suc n) [] m = m
mem_drop (suc n) (x ∷ xs) m = tail (mem_drop n xs m)

pub mem_parts : {A : Type 0} {y : A} (n : ℕ) (xs : List A) → Mem y xs → Mem y (take n xs) ⊎ Mem y (drop n xs)
mem_parts zero xs m = inr m
mem_parts (suc n) [] m = elim m [ ]
mem_parts (suc n) (x ∷ xs) head = inl head
mem_parts (suc n) (x ∷ xs) (tail m) = ⊎_elim (λ l. inl (tail l)) inr (mem_parts n xs m)
