-- The links of one place, and those up to one.
use Rattle.std.proofs.Common.{◌≡◌, ℕ, ◌+◌, ◌-◌, ◌<◌, ◌≤◌, ◌≢◌, ◌&&◌, Bool, true, false, nat_eq, nat_le, Decides, List, [], get_or, take, drop, is_some, None, Ok, Err, Result, MatchResult, sym, refl, ap, ◌∙◌, subst, inl, inr, ⊎_elim, arith, rules, take_all}
use Rattle.std.specs.List.{list_any}
use Rattle.std.specs.Result.{OkIff}
use Rattle.std.proofs.lemmas.List.{drop-take, take-take}
use Rattle.std.proofs.lemmas.Bool.{cases_lt, both_ways, eq-eqb, ne_eqb, le-leb, lt-leb}
use Rattle.parsing.specs.Items.{Source}
use Rattle.parsing.specs.Links.{LiveOf}
use Rattle.link_growth.specs.declared.Link.{Link}
use Rattle.link_growth.specs.Entries.{lnk, at, Mem, Has}
use Rattle.links.specs.declared.table.Table.{Table}
use Rattle.links.specs.Placing.{up_to, at_place, Rising}
use Rattle.links.specs.Tables.{content, StartsAt}
use Rattle.links.proofs.Lists.{one_of, none_of, is_none, some_not}
use Rattle.links.proofs.Sieves.{OfPlace, sieve_none, sieve_front, sieve_piece}
use Rattle.links.proofs.Contents.{long, content_at, starts_le}

-- The links of one place stand in one piece.
pub of_place : (t : Table) (p m n : ℕ) → StartsAt t p m → StartsAt t (p + 1) n → take (n - m) (drop m t.links) ≡ at_place p (content t)
unfolding at_place
of_place t p m n a b =
    let le = starts_le a b in
    let w = b.within in
    let size = long t in
    let all : m + (t.count - m) ≡ t.count = omega arith in
    let piece : take (n - m) (drop m (content t)) ≡ take (n - m) (drop m t.links) =
    ap (λ v. take (n - m) (drop m (take v t.links))) (sym all) ∙ ap (λ v. take (n - m) v) (drop-take m (t.count - m) t.links)
    ∙ take-take (n - m) (t.count - m) (drop m t.links) (omega arith) in
    sym piece
    ∙ sym (sieve_piece (λ (l : Link). nat_eq l.place p) (lnk 0 0 0 0) (content t) m (n - m)
    (λ k lt h. let e = content_at t k (omega arith) in let q = a.under k lt in subst (λ (v : Link). nat_eq v.place p ≡ false) (sym e) (ne_eqb (at t.links k).place p (λ z. omega arith)))
    (λ k lt h. let e = content_at t (m + k) (omega arith) in
    let lo = a.over (m + k) (omega arith) (omega arith) in
    let hi = b.under (m + k) (omega arith) in
    subst (λ (v : Link). nat_eq v.place p ≡ true) (sym e) (eq-eqb (at t.links (m + k)).place p (omega arith)))
    (λ k le' h. let e = content_at t k (omega arith) in
    let q = b.over k (omega arith) (omega arith) in
    subst (λ (v : Link). nat_eq v.place p ≡ false) (sym e) (ne_eqb (at t.links k).place p (λ z. omega arith))))

-- There is no place from 256 on.
pub outside : (t : Table) (p : ℕ) → (p < 256 → ⊥) → at_place p (content t) ≡ []
unfolding at_place
outside t p never =
    let size = long t in
    sieve_none (λ (l : Link). nat_eq l.place p) (lnk 0 0 0 0) (content t) (λ k lt.
    let e = content_at t k (omega arith) in
    let q = (t.small k (omega arith)).1 in
    subst (λ (v : Link). nat_eq v.place p ≡ false) (sym e) (ne_eqb (at t.links k).place p (λ z. never (omega arith))))

-- The links of a place that may be a byte.
pub at_any_place : {E W : Type 0} {Q : ℕ → Type 0} (t : Table) (p : ℕ) (r : Result ℕ E) (ys : List Link) → OkIff r (p < 256) p
    → MatchResult r Q (λ _. W) → ((x : ℕ) → Q x → ys ≡ at_place x (content t)) → (W → ys ≡ []) → ys ≡ at_place p (content t)
at_any_place t p (Ok x) ys a b f g = subst (λ v. ys ≡ at_place v (content t)) a.1 (f x b)
at_any_place t p (Err e) ys a b f g = g b ∙ sym (outside t p a)

-- The links up to a place stand first.
pub in_front : (t : Table) (k n : ℕ) → StartsAt t (k + 1) n → up_to k (content t) ≡ take n (content t)
unfolding up_to
in_front t k n a =
    let size = long t in
    let w = a.within in
    sieve_front (λ (l : Link). nat_le l.place k) (lnk 0 0 0 0) (content t) n
    (λ h lt in_list. let e = content_at t h (omega arith) in let q = a.under h lt in
    subst (λ (v : Link). nat_le v.place k ≡ true) (sym e) (le-leb (at t.links h).place k (omega arith)))
    (λ h le in_list. let e = content_at t h (omega arith) in let q = a.over h le (omega arith) in
    subst (λ (v : Link). nat_le v.place k ≡ false) (sym e) (lt-leb (at t.links h).place k (omega arith)))

-- And those up to the last place are all.
pub in_all : (t : Table) (k : ℕ) → t.place ≤ k → up_to k (content t) ≡ content t
unfolding up_to
in_all t k le =
    let size = long t in
    sieve_front (λ (l : Link). nat_le l.place k) (lnk 0 0 0 0) (content t) t.count
    (λ h lt in_list. let e = content_at t h lt in let q = t.high h lt in
    subst (λ (v : Link). nat_le v.place k ≡ true) (sym e) (le-leb (at t.links h).place k (omega arith)))
    (λ h le in_list. absurd (omega arith))
    ∙ take_all t.count (content t) (omega arith)

-- Links stand in the order of their places.
pub rising : (t : Table) → Rising (content t)
rising t h k lo hi =
    let size = long t in
    let e : (at (content t) h).place ≡ (at t.links h).place = ap (λ (v : Link). v.place) (content_at t h (omega arith)) in
    let f : (at (content t) k).place ≡ (at t.links k).place = ap (λ (v : Link). v.place) (content_at t k (omega arith)) in
    let high = t.high h (omega arith) in
    ⊎_elim
    (λ (y : h < get_or t.starts (at t.links h).place 0). absurd (let q = t.under (at t.links h).place h high y in omega arith))
    (λ (y : get_or t.starts (at t.links h).place 0 ≤ h). let q = t.over (at t.links h).place k (high, omega arith, omega arith) in omega arith)
    (cases_lt h (get_or t.starts (at t.links h).place 0))

-- Tests of links, by each of their numbers.
pub same_link : (a b : Link) → Decides (nat_eq a.state b.state && (nat_eq a.place b.place && (nat_eq a.below b.below && nat_eq a.below_place b.below_place))) (a ≡ b)
same_link a b = search rules

-- Whether a table has a link, by the links of its place.
module _ (t : Table) (l : Link) {ys : List Link} (at_place : OfPlace (content t) l.place ys) where
  pub there_by : (p : Link → Bool) → ((y : Link) → p y ≡ true → y ≡ l) → list_any p ys ≡ true → Mem l (content t)
  there_by p same e =
      let (y, m, h) = one_of p ys e in
      ((at_place l).0 (subst (λ v. Mem v ys) (same y h) m)).0

  pub absent_by : (p : Link → Bool) → p l ≡ true → list_any p ys ≡ false → Mem l (content t) → ⊥
  absent_by p same e m = both_ways (p l) (none_of p ys e ((at_place l).1 (m, refl))) same

-- No link of the last place stays there.
pub none_stays : (t : Table) {ys : List Link} → OfPlace (content t) t.place ys → list_any (λ (l : Link). nat_eq l.below_place t.place) ys ≡ false
    → (s b : ℕ) → Has (content t) s t.place b t.place → ⊥
none_stays t {ys} at_place e s b m =
    both_ways (nat_eq t.place t.place) (none_of (λ (l : Link). nat_eq l.below_place t.place) ys e ((at_place (lnk s t.place b t.place)).1 (m, refl))) (eq-eqb t.place t.place refl)

-- Whether a state that is live at the last place has a step.
module _ (src : Source) (x : ℕ) (t : Table) {ys : List Link} (at_place : OfPlace (content t) t.place ys) where
  abbrev pub step : Link → Bool
  step l = is_some (src.next l.state x)

  pub none_steps : list_any step ys ≡ false → (t.place ≡ 0 → src.next src.first x ≡ None)
      → (b : ℕ) → LiveOf src (Has (content t)) b t.place → src.next b x ≡ None
  none_steps e first b (inl (is, z)) = ap (λ v. src.next v x) is ∙ first z
  none_steps e first b (inr (c, q, m)) = is_none (src.next b x) (none_of step ys e ((at_place (lnk b t.place c q)).1 (m, refl)))

  pub one_steps : list_any step ys ≡ true → (b : ℕ) × LiveOf src (Has (content t)) b t.place × (src.next b x ≢ None)
  one_steps e =
      let (l, m, h) = one_of step ys e in
      let (has, place) = (at_place l).0 m in
      (l.state, inr (l.below, l.below_place, subst (λ v. Has (content t) l.state v l.below l.below_place) place has), some_not (src.next l.state x) h)
