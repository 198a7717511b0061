-- One word more, no word, and fewer words.
use Rattle.std.proofs.Common.{◌≡◌, ℕ, suc, ◌+◌, ◌-◌, ◌<◌, ◌≤◌, ◌≢◌, [], length, get_or, take, Some, None, Option, sym, refl, ap, ◌∙◌, subst, inl, inr, ⊎_elim, arith, take_all}
use Rattle.std.proofs.lemmas.Bool.{cases_lt}
use Rattle.parsing.specs.Items.{Source}
use Rattle.parsing.specs.Links.{LiveOf}
use Rattle.link_growth.specs.declared.Link.{Link}
use Rattle.link_growth.specs.Entries.{at, Mem, Has, nil}
use Rattle.link_growth.specs.Growth.{Makes, shifts, Grown, Overfull, Shut, Stepped}
use Rattle.link_growth.specs.Closures.{Closure, Outgrows, StepsFrom}
use Rattle.link_growth.proofs.Grows.{grown_mem, grown_has, grown_front, grown_lift, overfull_lift}
use Rattle.link_growth.proofs.Closing.{closed, overfull_outgrows}
use Rattle.links.specs.declared.table.Table.{Table}
use Rattle.links.specs.Tables.{content, StartsAt, Kept, FirstStepped, LinksStepped, Along, Begun, Cut}
use Rattle.links.proofs.Contents.{Placed, Turned, long, member, find, content_once, high_of, entry, content_same, count_more, placed_grown, placed_has, turned_overfull}
use Rattle.links.proofs.Rounds.{along_same, along_more, along_overfull}

-- The word rule from the first state.
pub first_makes : {src : Source} (x : ℕ) (t : Table) → x < src.grammar.terminals → t.place ≡ 1 → (s : ℕ) → src.next src.first x ≡ Some s
    → Makes src (Some x) t.place (content t) s src.first 0
first_makes x t lt e s n = shifts x refl lt e (inl (refl, refl)) n

-- The word rule from the states of the links up to k.
pub record Shifting (src : Source) (x : ℕ) (t u : Table) (limit m k : ℕ) : Type 0 where
  pub along : Along src (Some x) t u limit
  pub stepped : (h s : ℕ) → m ≤ h → h < k → src.next (at t.links h).state x ≡ Some s → Has (content u) s t.place (at t.links h).state (t.place - 1)

module _ {src : Source} {x : ℕ} {t u : Table} {limit m k n : ℕ} (a : StartsAt t (t.place - 1) m) (b : StartsAt t t.place n) (later : 0 < t.place)
    (word : x < src.grammar.terminals) (f : Shifting src x t u limit m k) (lo : m ≤ k) (hi : k < n) where
  inside : k < t.count
  inside = let w = b.within in omega arith

  pub shifting_state : (at u.links k).state ≡ (at t.links k).state
  shifting_state = ap (λ (v : Link). v.state) (entry t u f.along.grown k inside)

  pub shifting_makes : (s : ℕ) → src.next (at u.links k).state x ≡ Some s → Makes src (Some x) u.place (content u) s (at u.links k).state (t.place - 1)
  shifting_makes s e =
      let l = at u.links k in
      let same_link : at u.links k ≡ at t.links k = entry t u f.along.grown k inside in
      let mem : Mem l (content u) = grown_mem f.along.grown (subst (λ v. Mem v (content t)) (sym same_link) (member t k inside)) in
      let p = a.over k lo inside in
      let q = b.under k hi in
      let r : l.place ≡ (at t.links k).place = ap (λ (v : Link). v.place) same_link in
      let place : l.place ≡ t.place - 1 = omega arith in
      let live : LiveOf src (Has (content u)) l.state (t.place - 1) =
      inr (l.below, l.below_place, subst (λ v. Has (content u) l.state v l.below l.below_place) place mem) in
      shifts x refl word (f.along.kept.place ∙ (omega arith)) live e

  pub shifting_more : {v : Table} → Kept u v limit → Placed src u.place x (at u.links k).state (t.place - 1) (content u) (content v) → Shifting src x t v limit m (k + 1)
  shifting_more {v} kept p =
      let step : Along src (Some x) u v limit = record { kept = kept; grown = placed_grown p shifting_makes } in
      record {
        along = along_more f.along step;
        stepped = λ h s low high e. ⊎_elim
            (λ (y : h < k). grown_has step.grown s t.place (at t.links h).state (t.place - 1) (f.stepped h s low y e))
            (λ (y : k ≤ h).
            let is : k ≡ h = omega arith in
            let st : (at u.links k).state ≡ (at t.links h).state = shifting_state ∙ ap (λ z. (at t.links z).state) is in
            subst (λ z. Has (content v) s t.place z (t.place - 1)) st
            (subst (λ z. Has (content v) s z (at u.links k).state (t.place - 1)) f.along.kept.place (placed_has p s (ap (λ z. src.next z x) st ∙ e))))
            (cases_lt h k);
      }

  pub shifting_full : (v : Table) → Turned src u.place x (at u.links k).state (t.place - 1) limit (content u) (content v)
      → Overfull src (Some x) t.place (content t) limit
  shifting_full v p = along_overfull f.along (turned_overfull p shifting_makes)

pub no_shifts : (src : Source) (x : ℕ) (t : Table) (limit m : ℕ) → Shifting src x t t limit m m
no_shifts src x t limit m = record { along = along_same src (Some x) t limit; stepped = λ h s lo hi. absurd (omega arith) }

pub shifting_all : {src : Source} {x : ℕ} {t u : Table} {limit m n k : ℕ} → StartsAt t (t.place - 1) m → StartsAt t t.place n → 0 < t.place → n ≤ k
    → Shifting src x t u limit m k → LinksStepped src x t.place (content t) (content u)
shifting_all {src} {x} {t} {u} {m = m} {n = n} {k = k} a b later end f s c d q has next =
    let (h, lt, e) = find t has in
    let place : (at t.links h).place ≡ t.place - 1 = ap (λ (v : Link). v.place) e in
    let state : (at t.links h).state ≡ c = ap (λ (v : Link). v.state) e in
    let low : m ≤ h = ⊎_elim (λ (y : h < m). absurd (let w = a.under h y in omega arith)) (λ (y : m ≤ h). y) (cases_lt h m) in
    let high : h < n = ⊎_elim (λ (y : h < n). y) (λ (y : n ≤ h). absurd (let w = b.over h y lt in omega arith)) (cases_lt h n) in
    subst (λ v. Has (content u) s t.place v (t.place - 1)) state (f.stepped h s low (omega arith) (ap (λ v. src.next v x) state ∙ next))

pub all_stepped : {src : Source} {x : ℕ} {t u v : Table} {limit : ℕ} → 0 < t.place → Along src (Some x) t u limit → Along src (Some x) u v limit
    → FirstStepped src x t.place (content u) → LinksStepped src x u.place (content u) (content v)
    → Stepped src x t.place (t.place - 1) (content t) (content v)
all_stepped {src} {x} {t} {u} {v} later a b first links s c (inl (e, z)) next =
    let one : t.place ≡ 1 = omega arith in
    subst (λ y. Has (content v) s t.place y (t.place - 1)) (sym e)
    (subst (λ y. Has (content v) s t.place src.first y) (sym z)
    (grown_has b.grown s t.place src.first 0 (first s one (ap (λ y. src.next y x) (sym e) ∙ next))))
all_stepped {src} {x} {t} {u} {v} later a b first links s c (inr (d, q, has)) next =
    subst (λ p. Has (content v) s p c (p - 1)) a.kept.place
    (links s c d q (subst (λ p. Has (content u) c (p - 1) d q) (sym a.kept.place) (grown_has a.grown c (t.place - 1) d q has)) next)

-- Shifts, then reductions.
pub extended : {src : Source} {x : ℕ} {t u v : Table} {limit : ℕ} → Along src (Some x) t u limit → Along src None u v limit → Along src (Some x) t v limit
extended {x = x} a b = along_more a (record { kept = b.kept; grown = grown_lift (Some x) b.grown })

pub extended_stepped : {src : Source} {x i : ℕ} {t u v : Table} {limit : ℕ} → Along src (Some x) t u limit → Along src None u v limit
    → Stepped src x t.place i (content t) (content u) → Shut src u.place (content v)
    → Stepped src x t.place i (content t) (content v) × Shut src t.place (content v)
extended_stepped {src} {i = i} {t} {u} {v} a b st shut =
    ((λ s c l n. grown_has b.grown s t.place c i (st s c l n)), subst (λ p. Shut src p (content v)) a.kept.place shut)

pub extended_overfull : {src : Source} {x : ℕ} {t u : Table} {limit : ℕ} → Along src (Some x) t u limit → Overfull src None u.place (content u) limit
    → Overfull src (Some x) t.place (content t) limit
extended_overfull {x = x} a o = along_overfull a (overfull_lift (Some x) o)

-- The word rule's links are new.
some_of : (o : Option ℕ) → o ≢ None → (s : ℕ) × (o ≡ Some s)
some_of None ne = absurd (ne refl)
some_of (Some s) ne = (s, refl)

pub grew : {src : Source} {x : ℕ} {t b v : Table} {limit : ℕ} → Begun t b → Along src (Some x) b v limit
    → Stepped src x b.place (b.place - 1) (content b) (content v) → StepsFrom src (content t) t.place x → v.count ≤ limit
grew {src} {x} {t} {b} {v} {limit} be a st (c, live, steps) =
    let (s, next) = some_of (src.next c x) steps in
    let at_t : b.place - 1 ≡ t.place = (let q = be.place in omega arith) in
    let made : Has (content v) s b.place c (b.place - 1) =
    st s c (subst (λ z. LiveOf src (Has (content b)) c z) (sym at_t) (subst (λ z. LiveOf src (Has z) c t.place) (sym be.content) live)) next in
    let m = count_more b v a.grown in
    ⊎_elim
    (λ (y : b.count < v.count). a.kept.within y)
    (λ (y : v.count ≤ b.count).
    let old : Has (content t) s b.place c (b.place - 1) = subst (λ z. Has z s b.place c (b.place - 1)) (content_same b v a.grown (omega arith) ∙ be.content) made in
    let bad = high_of t s b.place c (b.place - 1) old in
    let q = be.place in
    absurd (omega arith))
    (cases_lt b.count v.count)

-- The links with those of one word more.
pub next_closure : {src : Source} {x : ℕ} {t b v : Table} {limit : ℕ} → Begun t b → Along src (Some x) b v limit
    → Stepped src x b.place (b.place - 1) (content b) (content v) → Shut src b.place (content v)
    → Closure src (Some x) (suc t.place) (content t) (content v)
next_closure {src} {x} {t} {b} {v} be a st shut =
    let next : b.place ≡ suc t.place = (let q = be.place in omega arith) in
    subst (λ z. Closure src (Some x) z (content t) (content v)) next
    (subst (λ z. Closure src (Some x) b.place z (content v)) be.content
    (closed a.grown (λ y i same_word is. step y i same_word is) shut (content_once b)))
  where
    step : (y i : ℕ) → Some x ≡ Some y → b.place ≡ suc i → Stepped src y b.place i (content b) (content v)
    step y i same_word is =
        let w : x ≡ y = cc in
        let below : b.place - 1 ≡ i = omega arith in
        subst (λ z. Stepped src z b.place i (content b) (content v)) w (subst (λ z. Stepped src x b.place z (content b) (content v)) below st)

pub next_outgrows : {src : Source} {x n : ℕ} {t b : Table} → Begun t b → Overfull src (Some x) b.place (content b) n
    → Outgrows src (Some x) (suc t.place) (content t) n
next_outgrows {src} {x} {n} {t} {b} be o =
    let next : b.place ≡ suc t.place = (let q = be.place in omega arith) in
    subst (λ z. Outgrows src (Some x) z (content t) n) next
    (subst (λ z. Outgrows src (Some x) b.place z n) be.content (overfull_outgrows (content_once b) o))

-- Place 0 of a table without links.
module _ {src : Source} (t : Table) {limit : ℕ} (none : content t ≡ []) (start : t.place ≡ 0) where
  pub first_closure : {v : Table} → Along src None t v limit → Shut src t.place (content v) → Closure src None 0 [] (content v)
  first_closure {v} a shut =
      let g : Grown src None 0 [] (content v) = subst (λ p. Grown src None p [] (content v)) start (subst (λ z. Grown src None t.place z (content v)) none a.grown) in
      closed g (λ x i e is. absurd (omega arith)) (subst (λ p. Shut src p (content v)) start shut) nil

  pub first_fits : {v : Table} → Along src None t v limit → v.count ≤ limit
  first_fits {v} a =
      let c : t.count ≡ 0 = sym (long t) ∙ ap length none in
      ⊎_elim
      (λ (more : 0 < v.count). a.kept.within (omega arith))
      (λ (less : v.count ≤ 0). omega arith)
      (cases_lt 0 v.count)

  pub first_outgrows : Overfull src None t.place (content t) limit → Outgrows src None 0 [] limit
  first_outgrows o =
      overfull_outgrows nil (subst (λ p. Overfull src None p [] limit) start (subst (λ z. Overfull src None t.place z limit) none o))

pub undone : {src : Source} {x : ℕ} {t b v w : Table} {limit k : ℕ} → Begun t b → Along src (Some x) b v limit → Cut k v w → k + 1 ≡ v.place
    → (content w ≡ content t) × (w.place ≡ t.place)
undone {src} {x} {t} {b} {v} {w} {limit} {k} be a cut e =
    let count : w.count ≡ t.count =
    cut.start.mark (omega arith) ∙ ap (λ z. get_or v.starts z 0) (e ∙ a.kept.place) ∙ ap (λ z. get_or z b.place 0) a.kept.starts ∙ be.start in
    let n = long b in
    let q = be.count in (
      cut.front ∙ ap (λ z. take z (content v)) (count ∙ sym q) ∙ grown_front b.count (omega arith) a.grown ∙ take_all b.count (content b) (omega arith) ∙ be.content,
      (let r = cut.place in let y = a.kept.place in let z = be.place in omega arith),
    )

-- A table is cut back.
pub starts_once : {t : Table} {i m n : ℕ} → StartsAt t i m → StartsAt t i n → m ≤ n
starts_once {t} {i} {m} {n} a b =
    ⊎_elim
    (λ (bad : n < m).
    let p = a.under n bad in
    let w = a.within in
    let q = b.over n (omega arith) (omega arith) in
    absurd (omega arith))
    (λ (good : m ≤ n). good)
    (cases_lt n m)
