-- Lists that loops pick.
use Rattle.std.proofs.Common.{◌<◌, List, ◌∷◌, map, length, arith}
use Rattle.link_growth.specs.Entries.{Mem, head, tail, Once, cons}
use Rattle.link_growth.proofs.Sizes.{no_longer}

-- A list without repeats whose entries are all among others has room for one more of those.
pub room : {A : Type 0} (cs ys : List A) (c : A) → Once cs → ((d : A) → Mem d cs → Mem d ys) → Mem c ys → (Mem c cs → ⊥) → length cs < length ys
room {A} cs ys c o all here none =
    let n = no_longer (c ∷ cs) ys (cons none o) (λ d h. sort d h) in
    omega arith
  where
    sort : (d : A) → Mem d (c ∷ cs) → Mem d ys
    sort d head = here
    sort d (tail h) = all d h

pub mem_map : {A B : Type 0} {x : A} {xs : List A} (f : A → B) → Mem x xs → Mem (f x) (map f xs)
mem_map f head = head
mem_map f (tail h) = tail (mem_map f h)
