-- How a register grows, call by call.
use Rattle.std.proofs.Common.{◌≡◌, ℕ, zero, suc, ◌+◌, ◌-◌, ◌<◌, ◌≤◌, Bool, true, false, ◌⊎◌, List, [], ◌∷◌, length, get_or, Ok, Err, Result, Ordering, Equal, sym, refl, ap, ◌∙◌, subst, inl, inr, arith}
use Rattle.std.specs.Cmp.{IsTotalOrder, tied_itself}
use Rattle.std.specs.declared.cmp.Ord
use Rattle.std.specs.declared.cmp.PartialEq
use Rattle.std.specs.declared.cmp.PartialOrd
use Rattle.std.specs.List.{insert}
use Rattle.std.proofs.lemmas.List.Edits.{length-insert, get_or-insert_below, get_or-insert_at, get_or-insert_above}
use Rattle.std.proofs.lemmas.Bool.{cases_order, cases_lt}
use Rattle.register.specs.declared.register.Full.{Full}
use Rattle.register.specs.declared.register.Register.{Register}
use Rattle.register.specs.Lists.{Has, Climbs, Apart, Faithful, More}
use Rattle.register.specs.Registers.{held, room, SameSlots, Put, Grew, Lacks, Filled}

module _ {X : Type 0} where
  has_here : (xs : List X) (i : ℕ) (x : X) → i ≤ length xs → Has (insert xs i x) x
  has_here xs i x h = (i, (let n = length-insert xs i x h in omega arith), λ d. get_or-insert_at xs i x d h)

  has_old : (xs : List X) (i : ℕ) (x z : X) → i ≤ length xs → Has xs z → Has (insert xs i x) z
  has_old xs i x z h (k, l, e) =
      let n = length-insert xs i x h in
      elim (cases_lt k i) [
        | inl b ↦ (k, omega arith, λ d. get_or-insert_below xs i x d k b h ∙ e d)
        | inr b ↦ (k + 1, omega arith, λ d. get_or-insert_above xs i x d k b h ∙ e d)
      ]

  has_only : (xs : List X) (i : ℕ) (x z : X) → i ≤ length xs → Has (insert xs i x) z → Has xs z ⊎ (z ≡ x)
  has_only xs i x z h (k, l, e) =
      let n = length-insert xs i x h in
      elim (cases_order k i) [
        | inl b ↦ inr (sym (e x) ∙ ap (λ t. get_or (insert xs i x) t x) b ∙ get_or-insert_at xs i x x h)
        | inr (inl b) ↦ inl (k, omega arith, λ d. sym (get_or-insert_below xs i x d k b h) ∙ e d)
        | inr (inr b) ↦
            let q : k - 1 + 1 ≡ k = omega arith in
            inl (k - 1, omega arith, λ d. sym (get_or-insert_above xs i x d (k - 1) (omega arith) h) ∙ ap (λ t. get_or (insert xs i x) t d) q ∙ e d)
      ]

  apart_cons : (x : X) (xs : List X) → Apart xs → ((k : ℕ) (d : X) → k < length xs → get_or xs k d ≡ x → ⊥) → Apart (x ∷ xs)
  apart_cons x xs a n zero zero d ij jl e = absurd (omega arith)
  apart_cons x xs a n zero (suc j) d ij jl e = n j d (omega arith) (sym e)
  apart_cons x xs a n (suc i) zero d ij jl e = absurd (omega arith)
  apart_cons x xs a n (suc i) (suc j) d ij jl e = a i j d (omega arith) (omega arith) e

  has_cons : (x : X) (xs : List X) (z : X) → Has (x ∷ xs) z → Has xs z ⊎ (z ≡ x)
  has_cons x xs z (zero, l, e) = inr (sym (e x))
  has_cons x xs z (suc k, l, e) = inl (k, omega arith, e)

  pub has_none : (z : X) → Has {X = X} [] z → ⊥
  has_none z (k, l, e) = omega arith

  -- More than n records that each stand in us or have the property P, told by another list and property.
  pub more_from : (P Q : X → Type 0) (us vs : List X) (n : ℕ) → ((z : X) → Has us z ⊎ P z → Has vs z ⊎ Q z) → More P us n → More Q vs n
  more_from P Q us vs n f m = record { some = m.some; apart = m.apart; each = λ z h. f z (m.each z h); many = m.many }

module _ {X : Type 0} {R : X → X → Ordering} (o : IsTotalOrder R) where
  equal_self : (x y : X) → x ≡ y → R x y ≡ Equal
  equal_self x y e = subst (λ w. R x w ≡ Equal) e (tied_itself o x)

  pub climbs_apart : (xs : List X) → Climbs R xs → Apart xs
  climbs_apart xs up i j d ij jl e =
      let a = up i j d ij jl in
      let b = equal_self (get_or xs i d) (get_or xs j d) e in
      let z : ◌≡◌ {A = ℕ} 0 1 = cc in omega arith

module _ {X : Type 0} {O : Ord.Ghosts X} {E : PartialEq.Ghosts X} {L : PartialOrd.Ghosts X} where
  pub same_slots : (a : Register X O E L) → SameSlots a a
  same_slots a = record { size = refl; lent = refl }

  pub then-slots : (a b c : Register X O E L) → SameSlots a b → SameSlots b c → SameSlots a c
  then-slots a b c p q = record { size = q.size ∙ p.size; lent = q.lent ∙ p.lent }

  -- A call that adds nothing, where all records with the property P are there.
  pub grew_none : (P : X → Type 0) (a : Register X O E L) → ((z : X) → P z → Has (held a) z) → Grew P a a
  grew_none P a f = record { same = same_slots a; old = λ z h. h; new = f; only = λ z h. inl h }

  -- One call after another.
  pub grew_then : (P Q S : X → Type 0) (a b c : Register X O E L) → ((z : X) → P z → S z) → ((z : X) → Q z → S z) → ((z : X) → S z → P z ⊎ Q z)
      → Grew P a b → Grew Q b c → Grew S a c
  grew_then P Q S a b c p q s u v = record {
    same = then-slots a b c u.same v.same;
    old = λ z h. v.old z (u.old z h);
    new = λ z h. elim (s z h) [ inl x ↦ v.old z (u.new z x) | inr x ↦ v.new z x ];
    only = λ z h. elim (v.only z h) [ inl x ↦ elim (u.only z x) [ inl y ↦ inl y | inr y ↦ inr (p z y) ] | inr x ↦ inr (q z x) ];
  }

  -- The same growth, told by another property.
  pub grew_as : (P Q : X → Type 0) (a b : Register X O E L) → ((z : X) → P z → Q z) → ((z : X) → Q z → P z) → Grew P a b → Grew Q a b
  grew_as P Q a b f g u = record {
    same = u.same;
    old = u.old;
    new = λ z h. u.new z (g z h);
    only = λ z h. elim (u.only z h) [ inl x ↦ inl x | inr x ↦ inr (f z x) ];
  }

  -- What lacks room after some growth lacks it from the start.
  pub lacks_then : (P Q S : X → Type 0) (a b c : Register X O E L) → ((z : X) → P z → S z) → ((z : X) → Q z → S z)
      → Grew P a b → Lacks Q b c → Lacks S a c
  lacks_then P Q S a b c p q u v = record {
    same = then-slots a b c u.same v.same;
    short = subst (λ n. More S (held a) n) u.same.size
        (more_from Q S (held b) (held a) (room b)
        (λ z h. elim h [ inl x ↦ elim (u.only z x) [ inl y ↦ inl y | inr y ↦ inr (p z y) ] | inr x ↦ inr (q z x) ])
        v.short);
  }

  pub lacks_as : (P Q : X → Type 0) (a b : Register X O E L) → ((z : X) → P z → Q z) → Lacks P a b → Lacks Q a b
  lacks_as P Q a b f v = record {
    same = v.same;
    short = more_from P Q (held a) (held a) (room a) (λ z h. elim h [ inl x ↦ inl x | inr x ↦ inr (f z x) ]) v.short;
  }

  -- What `insert` leaves, as growth by one record.
  pub grew_put : Faithful O.cmp → (a b : Register X O E L) (x : X) (new : Bool) → Put a b x (Ok new) → Grew (λ z. z ≡ x) a b
  grew_put f a b x true h =
      let xs = held a in
      let i = h.place in
      record {
        same = h.same;
        old = λ z q. subst (λ zs. Has zs z) (sym h.put) (has_old xs i x z h.place_in q);
        new = λ z q. subst (λ zs. Has zs z) (sym h.put) (subst (λ w. Has (insert xs i x) w) (sym q) (has_here xs i x h.place_in));
        only = λ z q. has_only xs i x z h.place_in (subst (λ zs. Has zs z) h.put q);
      }
  grew_put f a b x false (e, (k, kl, q)) =
      subst (λ c. Grew (λ z. z ≡ x) a c) (sym e)
      (grew_none (λ z. z ≡ x) a (λ z h. (k, kl, λ d. f (get_or (held a) k d) x (q d) ∙ sym h)))

  pub lacks_put : IsTotalOrder O.cmp → (a b : Register X O E L) (x : X) (e : Full) → Put a b x (Err e) → Lacks (λ z. z ≡ x) a b
  lacks_put o a b x e (q, n, c) =
      subst (λ c. Lacks (λ z. z ≡ x) a c) (sym q)
      (record {
        same = same_slots a;
        short = record {
          some = x ∷ held a;
          apart = apart_cons x (held a) (climbs_apart o (held a) a.in_order) (λ k d l r. c k d l (equal_self o (get_or (held a) k d) x r));
          each = λ z h. has_cons x (held a) z h;
          many = omega arith;
        };
      })

  pub filled_as : {U : Type 0} (P Q : X → Type 0) (a b : Register X O E L) (r : Result U Full)
      → ((z : X) → P z → Q z) → ((z : X) → Q z → P z) → Filled P a b r → Filled Q a b r
  filled_as P Q a b (Ok m) f g h = grew_as P Q a b f g h
  filled_as P Q a b (Err e) f g h = lacks_as P Q a b f h

  -- What lacks room is refused.
  pub filled_short : {U : Type 0} (P : X → Type 0) (a b : Register X O E L) (r : Result U Full) (e : Full) → r ≡ Err e → Lacks P a b → Filled P a b r
  filled_short {U} P a b r e q h = subst (λ (s : Result U Full). Filled P a b s) (sym q) h

-- A loop that adds the records with the property S by rising key.
module _ {X : Type 0} (S : X → Type 0) (key : X → ℕ) where
  -- Those with a key below k.
  abbrev pub Upto : ℕ → X → Type 0
  Upto k z = S z × (key z < k)

module _ {X : Type 0} {O : Ord.Ghosts X} {E : PartialEq.Ghosts X} {L : PartialOrd.Ghosts X} (S : X → Type 0) (key : X → ℕ) where
  pub keyed_taken : (Q : X → Type 0) (a b c : Register X O E L) (k : ℕ) → ((z : X) → Q z → S z × (key z ≡ k)) → ((z : X) → S z → key z ≡ k → Q z)
      → Grew (Upto S key k) a b → Grew Q b c → Grew (Upto S key (k + 1)) a c
  keyed_taken Q a b c k f g u v =
      grew_then (Upto S key k) Q (Upto S key (k + 1)) a b c
      (λ z h. (h.0, let l = h.1 in omega arith))
      (λ z h. let (x, e) = f z h in (x, omega arith))
      (λ z h. elim (cases_lt (key z) k) [ inl l ↦ inl (h.0, l) | inr l ↦ inr (g z h.0 (let m = h.1 in omega arith)) ])
      u v

  pub keyed_passed : (a b : Register X O E L) (k : ℕ) → ((z : X) → S z → key z ≡ k → ⊥) → Grew (Upto S key k) a b → Grew (Upto S key (k + 1)) a b
  keyed_passed a b k f u =
      grew_as (Upto S key k) (Upto S key (k + 1)) a b
      (λ z h. (h.0, let l = h.1 in omega arith))
      (λ z h. (h.0, elim (cases_lt (key z) k) [ inl l ↦ l | inr l ↦ absurd (f z h.0 (let m = h.1 in omega arith)) ]))
      u

  pub keyed_short : (Q : X → Type 0) (a b c : Register X O E L) (k : ℕ) → ((z : X) → Q z → S z) → Grew (Upto S key k) a b → Lacks Q b c → Lacks S a c
  keyed_short Q a b c k f u v = lacks_then (Upto S key k) Q S a b c (λ z h. h.0) f u v

  pub keyed_all : (a b : Register X O E L) (k : ℕ) → ((z : X) → S z → key z < k) → Grew (Upto S key k) a b → Grew S a b
  keyed_all a b k f u = grew_as (Upto S key k) S a b (λ z h. h.0) (λ z h. (h, f z h)) u
