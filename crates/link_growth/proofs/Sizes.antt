-- A list without repeats is no longer than a list that has all that it has.
use Rattle.std.proofs.Common.{◌≡◌, ◌+◌, ◌≤◌, ◌⊎◌, List, [], ◌∷◌, length, refl, subst, inl, inr, ⊎_elim, arith}
use Rattle.link_growth.specs.Entries.{Mem, head, tail, Once, cons}

-- ys without one place of x
record Less {A : Type 0} (x : A) (ys : List A) : Type 0 where
  pub rest : List A
  pub long : length ys ≡ length rest + 1
  pub keep : (y : A) → Mem y ys → (y ≡ x) ⊎ Mem y rest

less : {A : Type 0} {x : A} {ys : List A} → Mem x ys → Less x ys
less (head {xs = xs}) = record { rest = xs; long = omega arith; keep = λ y m. by_head m }
  where
    by_head : {A : Type 0} {x y : A} {xs : List A} → Mem y (x ∷ xs) → (y ≡ x) ⊎ Mem y xs
    by_head head = inl refl
    by_head (tail m) = inr m
less (tail {x = z} {xs = xs} m) =
    let l = less m in
    record { rest = z ∷ l.rest; long = (let k = l.long in omega arith); keep = λ y n. by_tail l n }
  where
    by_tail : {A : Type 0} {x y z : A} {xs : List A} (l : Less x xs) → Mem y (z ∷ xs) → (y ≡ x) ⊎ Mem y (z ∷ l.rest)
    by_tail l head = inr head
    by_tail l (tail n) = ⊎_elim inl (λ k. inr (tail k)) (l.keep _ n)

pub no_longer : {A : Type 0} (xs ys : List A) → Once xs → ((y : A) → Mem y xs → Mem y ys) → length xs ≤ length ys
no_longer [] ys o sub = omega arith
no_longer (x ∷ xs) ys (cons nx o) sub =
    let l = less (sub x head) in
    let k = no_longer xs l.rest o (λ y m. ⊎_elim (λ e. absurd (nx (subst (λ v. Mem v xs) e m))) (λ n. n) (l.keep y (sub y (tail m)))) in
    let e = l.long in
    omega arith
