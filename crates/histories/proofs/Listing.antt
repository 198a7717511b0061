-- Lists without repeats, and lists in order.
use Rattle.std.proofs.Common.{◌≡◌, ℕ, zero, suc, ◌≤◌, ◌⊎◌, List, [], ◌∷◌, length, Ordering, Less, sym, refl, ap, ◌∙◌, subst, ap₂, inl, inr, arith}
use Rattle.std.specs.Cmp.{IsTotalOrder}
use Rattle.std.specs.Ordering.{ordering_reverse}
use Rattle.register.specs.Lists.{Has, Apart, Climbs}
use Rattle.register.proofs.Growing.{has_none}
use Rattle.histories.specs.Sizes.{AtMost, MoreThan}
use Rattle.histories.specs.Forests.{Lists}

module _ {X : Type 0} where
  has_head : (x : X) (xs : List X) → Has (x ∷ xs) x
  has_head x xs = (0, omega arith, λ d. refl)

  has_tail : (x : X) (xs : List X) (z : X) → Has xs z → Has (x ∷ xs) z
  has_tail x xs z (k, l, e) = (suc k, omega arith, e)

  has_cons : (x : X) (xs : List X) (z : X) → Has (x ∷ xs) z → (z ≡ x) ⊎ Has xs z
  has_cons x xs z (zero, l, e) = inl (sym (e x))
  has_cons x xs z (suc k, l, e) = inr (k, omega arith, e)

  -- The list without one place of x.
  record Without (ys : List X) (x : X) : Type 0 where
    pub rest : List X
    pub long : length ys ≡ suc (length rest)
    pub keeps : (z : X) → Has ys z → (z ≡ x) ⊎ Has rest z

  without : (ys : List X) (x : X) → Has ys x → Without ys x
  without [] x h = absurd (has_none x h)
  without (y ∷ ys) x (zero, l, e) = record {
    rest = ys;
    long = refl;
    keeps = λ z h. elim (has_cons y ys z h) [ inl q ↦ inl (q ∙ e y) | inr q ↦ inr q ];
  }
  without (y ∷ ys) x (suc k, l, e) =
      let r = without ys x (k, omega arith, e) in
      record {
        rest = y ∷ r.rest;
        long = ap suc r.long;
        keeps = λ z h.
            elim (has_cons y ys z h) [
              | inl q ↦ inr (subst (λ w. Has (y ∷ r.rest) w) (sym q) (has_head y r.rest))
              | inr q ↦ elim (r.keeps z q) [ inl p ↦ inl p | inr p ↦ inr (has_tail y r.rest z p) ]
            ];
      }

  apart_tail : (x : X) (xs : List X) → Apart (x ∷ xs) → Apart xs
  apart_tail x xs a i j d ij jl e = a (suc i) (suc j) d (omega arith) (omega arith) e

  apart_head : (x : X) (xs : List X) → Apart (x ∷ xs) → Has xs x → ⊥
  apart_head x xs a (k, l, e) = a 0 (suc k) x (omega arith) (omega arith) (sym (e x))

  -- A list without repeats is no longer than a list that has all that it has.
  pub no_longer : (xs ys : List X) → Apart xs → ((z : X) → Has xs z → Has ys z) → length xs ≤ length ys
  no_longer [] ys a f = omega arith
  no_longer (x ∷ xs) ys a f =
      let w = without ys x (f x (has_head x xs)) in
      let less = no_longer xs w.rest (apart_tail x xs a) (λ z h.
      elim (w.keeps z (f z (has_tail x xs z h))) [
        | inl q ↦ absurd (apart_head x xs a (subst (λ v. Has xs v) q h))
        | inr q ↦ q
      ]) in
      let n = w.long in
      omega arith

module _ {X : Type 0} {R : X → X → Ordering} (o : IsTotalOrder R) where
  climbs_tail : (x : X) (xs : List X) → Climbs R (x ∷ xs) → Climbs R xs
  climbs_tail x xs up i j d ij jl = up (suc i) (suc j) d (omega arith) (omega arith)

  climbs_head : (x : X) (xs : List X) → Climbs R (x ∷ xs) → (z : X) → Has xs z → R x z ≡ Less
  climbs_head x xs up z (k, l, e) = ap (R x) (sym (e x)) ∙ up 0 (suc k) x (omega arith) (omega arith)

  -- Nothing is below and above another.
  never : {P : Type 0} (x y : X) → R x y ≡ Less → R y x ≡ Less → P
  never x y p q = let f = o.antisymm x y in let r = ap ordering_reverse q in let z : ◌≡◌ {A = ℕ} 0 1 = cc in absurd (omega arith)

  -- Two lists in order that have the same are the same.
  pub lists_same : (xs ys : List X) → Climbs R xs → Climbs R ys → ((z : X) → Has xs z → Has ys z) → ((z : X) → Has ys z → Has xs z) → xs ≡ ys
  lists_same [] [] p q f g = refl
  lists_same [] (y ∷ ys) p q f g = absurd (has_none y (g y (has_head y ys)))
  lists_same (x ∷ xs) [] p q f g = absurd (has_none x (f x (has_head x xs)))
  lists_same (x ∷ xs) (y ∷ ys) p q f g =
      ap₂ ◌∷◌ same (lists_same xs ys (climbs_tail x xs p) (climbs_tail y ys q)
      (λ z h.
      elim (has_cons y ys z (f z (has_tail x xs z h))) [
        | inl e ↦ let l = climbs_head x xs p z h in let m : R x x ≡ Less = ap (R x) (same ∙ sym e) ∙ l in never x x m m
        | inr k ↦ k
      ])
      (λ z h.
      elim (has_cons x xs z (g z (has_tail y ys z h))) [
        | inl e ↦ let l = climbs_head y ys q z h in let m : R y y ≡ Less = ap (R y) (sym same ∙ sym e) ∙ l in never y y m m
        | inr k ↦ k
      ]))
    where
      same : x ≡ y
      same =
          elim (has_cons y ys x (f x (has_head x xs))) [
            | inl e ↦ e
            | inr h ↦
                elim (has_cons x xs y (g y (has_head y ys))) [
                  | inl e ↦ sym e
                  | inr k ↦ never x y (climbs_head x xs p y k) (climbs_head y ys q x h)
                ]
          ]

  pub listed_same : {P : X → Type 0} {xs ys : List X} → Lists R P xs → Lists R P ys → xs ≡ ys
  listed_same {P} {xs} {ys} a b =
      lists_same xs ys a.order b.order (λ z h. b.each z (a.only z h)) (λ z h. a.each z (b.only z h))

  -- A list of all records with a property counts them.
  pub listed_most : {P : X → Type 0} {xs : List X} → Lists R P xs → AtMost P (length xs)
  listed_most {P} {xs} a ys apart f = no_longer ys xs apart (λ z h. a.each z (f z h))

  -- Where such a list has room, there is room for all.
  pub listed_room : {P : X → Type 0} {xs : List X} {n : ℕ} → Lists R P xs → length xs ≤ n → AtMost P n
  listed_room a h ys apart f = omega (arith, listed_most a ys apart f)

-- There are not at most n and more than n.
pub not_both : {X P : Type 0} {Q : X → Type 0} {n : ℕ} → AtMost Q n → MoreThan Q n → P
not_both few m = absurd (omega (arith, few m.some m.apart m.each, m.many))
