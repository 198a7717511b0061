-- What a table's bounds say of its content.
use Rattle.std.proofs.Common.{◌≡◌, ℕ, ◌+◌, ◌<◌, ◌≤◌, List, [], ◌∷◌, ◌++◌, length, get_or, take, drop, Some, None, Ok, Err, Option, Result, sym, refl, ap, ◌∙◌, subst, ⊎_elim, arith, length-take-le, length-drop, get_or-take, MatchResult, is_err, true, false, true≢false}
use Rattle.std.proofs.lemmas.Bool.{cases_lt}
use Rattle.std.proofs.lemmas.List.{length_push, get_or-drop}
use Rattle.parsing.specs.Items.{Source}
use Rattle.parsing.specs.Links.{ChainOf, stay_of, down_of}
use Rattle.link_growth.specs.declared.Link.{Link}
use Rattle.link_growth.specs.Entries.{lnk, at, Small, Mem, Has, Once}
use Rattle.link_growth.specs.Growth.{Makes, shifts, reduces, Grown, same, add, Overfull, Laid}
use Rattle.link_growth.proofs.Members.{mem_take, take_index, mem_last, mem_index, mem_parts}
use Rattle.link_growth.proofs.Grows.{grown_long, grown_same, grown_front}
use Rattle.links.specs.declared.table.Table.{Table}
use Rattle.links.specs.Tables.{content, StartsAt, Kept, Added, Refused, there, new}
use Rattle.links.proofs.Sieves.{apart_once}

pub long : (t : Table) → length (content t) ≡ t.count
long t = length-take-le t.count t.links (omega (arith, t.room, t.few))

pub content_at : (t : Table) (k : ℕ) → k < t.count → at (content t) k ≡ at t.links k
content_at t k lt = get_or-take t.count t.links k (lnk 0 0 0 0) lt

pub member : (t : Table) (k : ℕ) → k < t.count → Mem (at t.links k) (content t)
member t k lt = mem_take t.links t.count k (lnk 0 0 0 0) (omega (arith, t.room, t.few)) lt

pub content_once : (t : Table) → Once (content t)
content_once t =
    let size = long t in
    apart_once (lnk 0 0 0 0) (content t) (λ h k lo hi e. t.once h k lo (omega arith) (sym (content_at t h (omega arith)) ∙ e ∙ content_at t k (omega arith)))

pub find : (t : Table) {l : Link} → Mem l (content t) → (k : ℕ) × (k < t.count) × (at t.links k ≡ l)
find t m = take_index t.links t.count (lnk 0 0 0 0) (omega (arith, t.room, t.few)) m

pub small_of : (t : Table) (l : Link) → Mem l (content t) → Small l
small_of t l m = let (k, lt, e) = find t m in subst Small e (t.small k lt)

pub falls_of : (t : Table) (s p b i : ℕ) → Has (content t) s p b i → i ≤ p
falls_of t s p b i m =
    let (k, lt, e) = find t m in
    let f = t.falls k lt in
    let y : (at t.links k).place ≡ p = ap (λ (v : Link). v.place) e in
    let z : (at t.links k).below_place ≡ i = ap (λ (v : Link). v.below_place) e in
    omega arith

pub high_of : (t : Table) (s p b i : ℕ) → Has (content t) s p b i → p ≤ t.place
high_of t s p b i m =
    let (k, lt, e) = find t m in
    let f = t.high k lt in
    let y : (at t.links k).place ≡ p = ap (λ (v : Link). v.place) e in
    omega arith

-- The links from n on, where n is not before the start of the last place.
module _ (t : Table) (n : ℕ) (since : get_or t.starts t.place 0 ≤ n) where
  pub last_place : (k : ℕ) → n ≤ k → k < t.count → (at t.links k).place ≡ t.place
  last_place k lo hi =
      let a = t.over t.place k (omega arith, omega arith, hi) in
      let b = t.high k hi in
      omega arith

  pub laid_from : n ≤ t.count → Laid t.place n (content t)
  laid_from le = record {
    within = (let e = long t in omega arith);
    here = here;
    old = λ s p b i m ne. ⊎_elim (λ (low : Has (take n (content t)) s p b i). low) (λ late. absurd (ne (here (lnk s p b i) late))) (mem_parts n (content t) m);
    falls = falls_of t;
  }
    where
      here : (l : Link) → Mem l (drop n (content t)) → l.place ≡ t.place
      here l m =
          let q = long t in
          let size = length-drop n (content t) in
          let (k, lt, e) = mem_index (lnk 0 0 0 0) m in
          let h : n + k < t.count = omega arith in
          let is : at t.links (n + k) ≡ l = sym (content_at t (n + k) h) ∙ sym (get_or-drop n (content t) k (lnk 0 0 0 0)) ∙ e in
          ap (λ (v : Link). v.place) (sym is) ∙ last_place (n + k) (omega arith) h

pub starts_le : {t : Table} {i m n : ℕ} → StartsAt t i m → StartsAt t (i + 1) n → m ≤ n
starts_le {t} {i} {m} {n} a b =
    ⊎_elim
    (λ (bad : n < m).
    let p = a.under n bad in
    let w = a.within in
    let q = b.over n (omega arith) (omega arith) in
    absurd (omega arith))
    (λ (good : m ≤ n). good)
    (cases_lt n m)

-- Growth as it shows in the table.
pub count_more : {src : Source} {w : Option ℕ} {j : ℕ} (t u : Table) → Grown src w j (content t) (content u) → t.count ≤ u.count
count_more t u g =
    let p = long t in
    let q = long u in
    let r = grown_long g in
    omega arith

pub content_same : {src : Source} {w : Option ℕ} {j : ℕ} (t u : Table) → Grown src w j (content t) (content u) → u.count ≡ t.count → content u ≡ content t
content_same t u g e = grown_same g (long u ∙ e ∙ sym (long t))

-- An entry below the count stays where it is.
pub entry : {src : Source} {w : Option ℕ} {j : ℕ} (t u : Table) → Grown src w j (content t) (content u) → (k : ℕ) → k < t.count → at u.links k ≡ at t.links k
entry t u g k lt =
    let p = long t in
    let m = count_more t u g in
    let e : take t.count (content u) ≡ take t.count (content t) = grown_front t.count (omega arith) g in
    sym (content_at u k (omega arith)) ∙ sym (get_or-take t.count (content u) k (lnk 0 0 0 0) lt) ∙ ap (λ v. at v k) e
    ∙ get_or-take t.count (content t) k (lnk 0 0 0 0) lt ∙ content_at t k lt

pub kept_same : (t : Table) (limit : ℕ) → Kept t t limit
kept_same t limit = record { place = refl; starts = refl; within = λ h. absurd (omega arith) }

pub kept_more : {t u v : Table} {limit : ℕ} → Kept t u limit → Kept u v limit → Kept t v limit
kept_more {t} {u} {v} {limit} k l = record {
  place = l.place ∙ k.place;
  starts = l.starts ∙ k.starts;
  within = λ h. ⊎_elim
      (λ (more : u.count < v.count). l.within more)
      (λ (less : v.count ≤ u.count). let q = k.within (omega arith) in omega arith)
      (cases_lt u.count v.count);
}

-- The link that b at i has by the symbol x is put behind xs, unless there is none or it is there.
pub data Placed (src : Source) (j x b i : ℕ) (xs ys : List Link) : Type 0 where
  nowhere : src.next b x ≡ None → ys ≡ xs → Placed src j x b i xs ys
  somewhere : (s : ℕ) → src.next b x ≡ Some s → Added xs ys (lnk s j b i) → Placed src j x b i xs ys

-- It is new, there is no room for it, and ys is xs.
pub record Turned (src : Source) (j x b i limit : ℕ) (xs ys : List Link) : Type 0 where
  pub state : ℕ
  pub steps : src.next b x ≡ Some state
  pub refused : Refused xs ys (lnk state j b i) limit

pub turned_by : {src : Source} {j x b i limit s : ℕ} {xs ys : List Link} → src.next b x ≡ Some s → Refused xs ys (lnk s j b i) limit
    → Turned src j x b i limit xs ys
turned_by {s = s} n r = record { state = s; steps = n; refused = r }

-- One link put behind.
pub placed_grown : {src : Source} {w : Option ℕ} {j x b i : ℕ} {xs ys : List Link} → Placed src j x b i xs ys
    → ((s : ℕ) → src.next b x ≡ Some s → Makes src w j xs s b i) → Grown src w j xs ys
placed_grown {src} {w} {j} {xs = xs} (nowhere n e) f = subst (λ v. Grown src w j xs v) (sym e) same
placed_grown {src} {w} {j} {xs = xs} (somewhere s n (there m e)) f = subst (λ v. Grown src w j xs v) (sym e) same
placed_grown {src} {w} {j} {xs = xs} (somewhere s n (new m e)) f = subst (λ v. Grown src w j xs v) (sym e) (add same (f s n) m)

pub placed_has : {src : Source} {j x b i : ℕ} {xs ys : List Link} → Placed src j x b i xs ys → (s : ℕ) → src.next b x ≡ Some s → Has ys s j b i
placed_has (nowhere n e) s f = let z : ◌≡◌ {A = ℕ} 0 1 = cc in absurd (omega arith)
placed_has {j = j} {b = b} {i = i} {ys = ys} (somewhere q n (there m e)) s f =
    let p : q ≡ s = cc in
    subst (λ v. Mem (lnk v j b i) ys) p (subst (λ v. Mem (lnk q j b i) v) (sym e) m)
placed_has {j = j} {b = b} {i = i} {xs = xs} {ys = ys} (somewhere q n (new m e)) s f =
    let p : q ≡ s = cc in
    subst (λ v. Mem (lnk v j b i) ys) p (subst (λ v. Mem (lnk q j b i) v) (sym e) (mem_last xs (lnk q j b i)))

pub turned_overfull : {src : Source} {w : Option ℕ} {j x b i limit : ℕ} {xs ys : List Link} → Turned src j x b i limit xs ys
    → ((s : ℕ) → src.next b x ≡ Some s → Makes src w j xs s b i) → Overfull src w j xs limit
turned_overfull {j = j} {b = b} {i = i} {xs = xs} t f = record {
  made = xs ++ lnk t.state j b i ∷ [];
  grown = add same (f t.state t.steps) t.refused.new;
  long = (let l = length_push xs (lnk t.state j b i) in let h = t.refused.full in omega arith);
}

pub turned_grown : {src : Source} {w : Option ℕ} {j x b i limit : ℕ} {xs ys : List Link} → Turned src j x b i limit xs ys → Grown src w j xs ys
turned_grown {src} {w} {j} {xs = xs} t = subst (λ v. Grown src w j xs v) (sym t.refused.kept) same

-- A link that the rules make over links that never rise does not rise.
chain_falls : {K : ℕ → ℕ → ℕ → ℕ → Type 0} → ((s p b i : ℕ) → K s p b i → i ≤ p) → {m t j b i : ℕ} → ChainOf K m t j b i → i ≤ j
chain_falls f stay_of = omega arith
chain_falls f (down_of {t = t} {j = j} {s = s} {k = k} h c) = let p = f t j s k h in let q = chain_falls f c in omega arith

pub makes_falls : {src : Source} {w : Option ℕ} {j s b i : ℕ} {xs : List Link} → ((s p b i : ℕ) → Has xs s p b i → i ≤ p) → Makes src w j xs s b i → i ≤ j
makes_falls f (shifts x e lt ji l n) = omega arith
makes_falls f (reduces r t h l c d n) = chain_falls f c

-- Either way.
pub either : {T E : Type 0} (r : Result T E) {X Y Z : Type 0} → MatchResult r (λ _. X) (λ _. Y) → (X → Z) → (Y → Z) → Z
either (Ok x) h f g = f h
either (Err e) h f g = g h

pub both : {T E : Type 0} (r : Result T E) {X Y Z W : Type 0} → MatchResult r (λ _. X) (λ _. Y) → (X → Z) → (Y → W) → MatchResult r (λ _. Z) (λ _. W)
both (Ok x) h f g = f h
both (Err e) h f g = g h

-- In one of the two.
pub in_err : {T E : Type 0} (r : Result T E) (X : Type 0) {Y : Type 0} → is_err r ≡ true → MatchResult r (λ _. X) (λ _. Y) → Y
in_err (Ok x) X e h = absurd (true≢false (sym e))
in_err (Err x) X e h = h

pub in_ok : {T E : Type 0} (r : Result T E) {X : Type 0} (Y : Type 0) → is_err r ≡ false → MatchResult r (λ _. X) (λ _. Y) → X
in_ok (Ok x) Y e h = h
in_ok (Err x) Y e h = absurd (true≢false e)
