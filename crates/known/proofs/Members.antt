-- Entries that are told by numbers: tests for members, for repeats and for the order.
use Rattle.std.proofs.Common.{◌≡◌, ℕ, zero, suc, Bool, true, false, not, ◌&&◌, eqb, List, [], ◌∷◌, get_or, Ordering, Less, sym, refl, subst, ap₂, arith}
use Rattle.std.specs.Ordering.{is_lt}
use Rattle.std.proofs.lemmas.Bool.{and_parts, and_from, or_left, or_right, eqb-true, eq-eqb, not-true, both_ways, false≢true}
use Rattle.link_growth.specs.Entries.{Mem, head, tail, Once, nil, cons}
use Rattle.link_growth.proofs.Members.{mem_at}
use Rattle.register.specs.Lists.{Has, Climbs}
use Rattle.known.proofs.Tests.{all_of, some_of, at_member, found_member}

abbrev pub same_numbers : List ℕ → List ℕ → Bool
same_numbers [] [] = true
same_numbers [] (y ∷ ys) = false
same_numbers (x ∷ xs) [] = false
same_numbers (x ∷ xs) (y ∷ ys) = eqb x y && same_numbers xs ys

pub numbers_same : (xs ys : List ℕ) → same_numbers xs ys ≡ true → xs ≡ ys
numbers_same [] [] e = refl
numbers_same [] (y ∷ ys) e = absurd (false≢true e)
numbers_same (x ∷ xs) [] e = absurd (false≢true e)
numbers_same (x ∷ xs) (y ∷ ys) e =
    let (a, b) = and_parts _ _ e in
    ap₂ (λ z zs. z ∷ zs) (eqb-true _ _ a) (numbers_same xs ys b)

pub same_self : (xs : List ℕ) → same_numbers xs xs ≡ true
same_self [] = refl
same_self (x ∷ xs) = and_from _ _ (eq-eqb _ _ refl) (same_self xs)

-- The entries are told by their codes.
module _ {A : Type 0} (code : A → List ℕ) where
  abbrev pub member? : A → List A → Bool
  member? x ys = some_of (λ y. same_numbers (code x) (code y)) ys

  abbrev pub once? : List A → Bool
  once? [] = true
  once? (x ∷ xs) = not (member? x xs) && once? xs

  pub is_member : ((x y : A) → code x ≡ code y → x ≡ y) → (x : A) (ys : List A) → member? x ys ≡ true → Mem x ys
  is_member told x ys e =
      let (y, m, q) = found_member (λ y. same_numbers (code x) (code y)) ys e in
      subst (λ z. Mem z ys) (sym (told x y (numbers_same (code x) (code y) q))) m

  member_is : (x : A) (ys : List A) → Mem x ys → member? x ys ≡ true
  member_is x [] m = elim m [ ]
  member_is x (y ∷ ys) head = or_left _ _ (same_self (code x))
  member_is x (y ∷ ys) (tail m) = or_right _ _ (member_is x ys m)

  pub is_once : (xs : List A) → once? xs ≡ true → Once xs
  is_once [] e = nil
  is_once (x ∷ xs) e =
      let (a, b) = and_parts _ _ e in
      cons (λ m. both_ways _ (not-true _ a) (member_is x xs m)) (is_once xs b)

-- Members are what stands at the places of a list.
pub mem_has : {A : Type 0} {x : A} {xs : List A} → Mem x xs → Has xs x
mem_has head = (0, omega arith, λ d. refl)
mem_has (tail m) = let (k, h, e) = mem_has m in (suc k, omega arith, e)

pub has_mem : {A : Type 0} {x : A} {xs : List A} → Has xs x → Mem x xs
has_mem {x = x} {xs = xs} (k, h, e) = subst (λ v. Mem v xs) (e x) (mem_at xs k x h)

less : (c : Ordering) → is_lt c ≡ true → c ≡ Less
less Ordering.Less e = refl
less Ordering.Equal e = absurd (false≢true e)
less Ordering.Greater e = absurd (false≢true e)

module _ {A : Type 0} (R : A → A → Ordering) where
  -- Each entry is below all that follow it.
  abbrev pub climbs? : List A → Bool
  climbs? [] = true
  climbs? (x ∷ xs) = all_of (λ y. is_lt (R x y)) xs && climbs? xs

  pub is_climbing : (xs : List A) → climbs? xs ≡ true → Climbs R xs
  is_climbing [] e i j d ij jl = absurd (omega arith)
  is_climbing (x ∷ xs) e zero zero d ij jl = absurd (omega arith)
  is_climbing (x ∷ xs) e zero (suc j) d ij jl =
      less (R x (get_or xs j d))
      (at_member (λ y. is_lt (R x y)) (get_or xs j d) xs (and_parts _ _ e).0 (mem_at xs j d (omega arith)))
  is_climbing (x ∷ xs) e (suc i) zero d ij jl = absurd (omega arith)
  is_climbing (x ∷ xs) e (suc i) (suc j) d ij jl = is_climbing xs (and_parts _ _ e).1 i j d (omega arith) (omega arith)
