-- Reductions one after another, until none makes anything new.
use Rattle.std.proofs.Common.{◌≡◌, ℕ, suc, ◌+◌, ◌<◌, ◌≤◌, ◌⊎◌, List, [], ◌∷◌, ◌++◌, length, get_or, take, Some, None, Option, sym, refl, ap, ◌∙◌, subst, inl, inr, ⊎_elim, arith}
use Rattle.std.proofs.lemmas.Bool.{cases_lt}
use Rattle.parsing.specs.Grammar.{rule_count}
use Rattle.parsing.specs.Items.{Source}
use Rattle.link_growth.specs.declared.Link.{Link}
use Rattle.link_growth.specs.declared.Cell.{Cell}
use Rattle.link_growth.specs.Entries.{lnk, at, Mem, Has, Once, cell, upper, lower, Leads, stays, goes, Spread}
use Rattle.link_growth.specs.Picking.{Picked}
use Rattle.link_growth.specs.Growth.{Makes, Grown, same, Overfull, Fired, Shut, Before, Fresh, Ends}
use Rattle.link_growth.proofs.Members.{mem_left, mem_last, mem_split, take_index, mem_front}
use Rattle.link_growth.proofs.Grows.{grown_has, grown_trans, makes_more, overfull_more}
use Rattle.link_growth.proofs.Fires.{before_more, fresh_more, fired_more, fired_less, fired_before}
use Rattle.links.specs.declared.table.Table.{Table}
use Rattle.links.specs.Tables.{content, StartsAt, Kept, there, new, Marked, Along, Ahead}
use Rattle.links.proofs.Sieves.{OfPlace}
use Rattle.links.proofs.Lists.{once_last, cell_is}
use Rattle.links.proofs.Changes.{starts_in}
use Rattle.links.proofs.Contents.{Placed, nowhere, somewhere, Turned, long, count_more, content_same, content_at, kept_same, kept_more, placed_grown, placed_has, turned_overfull, makes_falls, falls_of}

-- The table t has become u.
pub along_same : (src : Source) (w : Option ℕ) (t : Table) (limit : ℕ) → Along src w t t limit
along_same src w t limit = record { kept = kept_same t limit; grown = same }

pub along_more : {src : Source} {w : Option ℕ} {t u v : Table} {limit : ℕ} → Along src w t u limit → Along src w u v limit → Along src w t v limit
along_more {src} {w} {t} {u} {v} a b = record {
  kept = kept_more a.kept b.kept;
  grown = grown_trans a.grown (subst (λ p. Grown src w p (content u) (content v)) a.kept.place b.grown);
}

pub along_overfull : {src : Source} {w : Option ℕ} {t u : Table} {limit : ℕ} → Along src w t u limit → Overfull src w u.place (content u) limit → Overfull src w t.place (content t) limit
along_overfull {src} {w} {u = u} {limit = limit} a o = overfull_more a.grown (subst (λ p. Overfull src w p (content u) limit) a.kept.place o)

-- The cells `rest` of a set are still to be stepped from, the others have been; those of `marked` have their link from the start.
pub record Firing (src : Source) (x : ℕ) (t u : Table) (limit : ℕ) (start rest marked : List Cell) : Type 0 where
  pub along : Along src None t u limit
  pub sub : (c : Cell) → Mem c rest → Mem c start
  pub fired : (b i s : ℕ) → Mem (cell b i) start → src.next b x ≡ Some s → Mem (cell b i) rest ⊎ Has (content u) s t.place b i
  pub linked : Marked src x t.place (content t) start marked
  pub lacking : (b i s : ℕ) → Mem (cell b i) rest → src.next b x ≡ Some s → Has (content u) s t.place b i → Mem (cell b i) marked

pub firing_none : (src : Source) (x : ℕ) (t : Table) (limit : ℕ) (start marked : List Cell) → Marked src x t.place (content t) start marked
    → Firing src x t t limit start start marked
firing_none src x t limit start marked k = record { along = along_same src None t limit; sub = λ c m. m; fired = λ b i s m n. inl m; linked = k; lacking = k.whole }

-- The link that is placed from b at i is the only one that is new.
placed_back : {src : Source} {j x b i s p c k : ℕ} {xs ys : List Link} → Placed src j x b i xs ys → Has ys s p c k → Has xs s p c k ⊎ ((c ≡ b) × (k ≡ i))
placed_back {s = s} {p} {c} {k} (nowhere n e) h = inl (subst (λ v. Has v s p c k) e h)
placed_back {s = s} {p} {c} {k} (somewhere q n (there m e)) h = inl (subst (λ v. Has v s p c k) e h)
placed_back {j = j} {b = b} {i = i} {s = s} {p} {c} {k} {xs = xs} (somewhere q n (new m e)) h =
    ⊎_elim inl
    (λ (z : lnk s p c k ≡ lnk q j b i). inr (ap (λ (v : Link). v.below) z, ap (λ (v : Link). v.below_place) z))
    (mem_split xs (lnk q j b i) (subst (λ v. Has v s p c k) e h))

-- What the cell c allows.
module _ {src : Source} {x : ℕ} {t u : Table} {limit : ℕ} {start rest marked : List Cell} (less : List Cell) (c : Cell) (split : rest ≡ less ++ c ∷ [])
    (f : Firing src x t u limit start rest marked) where
  firing_here : Mem c rest
  firing_here = subst (λ v. Mem c v) (sym split) (mem_last less c)

  firing_less : (d : Cell) → Mem d less → Mem d rest
  firing_less d m = subst (λ z. Mem d z) (sym split) (mem_left (c ∷ []) m)

  firing_split : {d : Cell} → Mem d rest → Mem d less ⊎ (d ≡ c)
  firing_split {d} m = mem_split less c (subst (λ z. Mem d z) split m)

  -- A cell that has its link.
  pub firing_known : Mem c marked → Firing src x t u limit start less marked
  firing_known here = record {
    along = f.along;
    sub = λ d m. f.sub d (firing_less d m);
    fired = λ b i s m n. ⊎_elim (λ r. ⊎_elim inl (λ (is : cell b i ≡ c). inr (known b i s is n)) (firing_split r)) inr (f.fired b i s m n);
    linked = f.linked;
    lacking = λ b i s m n h. f.lacking b i s (firing_less (cell b i) m) n h;
  }
    where
      known : (b i s : ℕ) → cell b i ≡ c → src.next b x ≡ Some s → Has (content u) s t.place b i
      known b i s is n =
          let (q, next, has) = f.linked.sound (cell b i) (subst (λ v. Mem v marked) (sym is) here) in
          let es : q ≡ s = cc in
          grown_has f.along.grown s t.place b i (subst (λ v. Has (content t) v t.place b i) es has)

  -- A cell that has not.
  module _ (allowed : Ends src x 0 start (content t) (Makes src None t.place (content t))) where
    firing_makes : (s : ℕ) → src.next c.state x ≡ Some s → Makes src None u.place (content u) s c.state c.place
    firing_makes s e =
        let old : Makes src None t.place (content t) s c.state c.place = allowed c c.state c.place s (f.sub c firing_here) stays e in
        subst (λ p. Makes src None p (content u) s c.state c.place) (sym f.along.kept.place) (makes_more (grown_has f.along.grown) old)

    pub firing_falls : (s : ℕ) → src.next c.state x ≡ Some s → c.place ≤ u.place
    firing_falls s e = makes_falls (falls_of u) (firing_makes s e)

    pub firing_fresh : (Mem c marked → ⊥) → (s : ℕ) → src.next c.state x ≡ Some s → Has (content u) s u.place c.state c.place → ⊥
    firing_fresh none s e h = none (f.lacking c.state c.place s firing_here e (subst (λ p. Has (content u) s p c.state c.place) f.along.kept.place h))

    pub firing_more : {v : Table} → Once rest → Kept u v limit → Placed src u.place x c.state c.place (content u) (content v) → Firing src x t v limit start less marked
    firing_more {v} once k p =
        let step : Along src None u v limit = record { kept = k; grown = placed_grown p firing_makes } in
        record {
          along = along_more f.along step;
          sub = λ d m. f.sub d (firing_less d m);
          fired = λ b i s m n. ⊎_elim
              (λ r. ⊎_elim inl
              (λ (is : cell b i ≡ c).
              let eb : c.state ≡ b = ap (λ (v : Cell). v.state) (sym is) in
              let ei : c.place ≡ i = ap (λ (v : Cell). v.place) (sym is) in
              inr (subst (λ z. Has (content v) s z b i) f.along.kept.place
              (subst (λ z. Has (content v) s u.place z i) eb
              (subst (λ z. Has (content v) s u.place c.state z) ei (placed_has p s (ap (λ z. src.next z x) eb ∙ n))))))
              (firing_split r))
              (λ h. inr (grown_has step.grown s t.place b i h))
              (f.fired b i s m n);
          linked = f.linked;
          lacking = λ b i s m n h. ⊎_elim
              (λ o. f.lacking b i s (firing_less (cell b i) m) n o)
              (λ (y : (b ≡ c.state) × (i ≡ c.place)).
              let is : cell b i ≡ c = cell_is y.0 y.1 in
              absurd ((once_last less c (subst Once split once)).1 (subst (λ z. Mem z less) is m)))
              (placed_back p h);
        }

    pub firing_full : (v : Table) → Turned src u.place x c.state c.place limit (content u) (content v) → Overfull src None t.place (content t) limit
    firing_full v p = along_overfull f.along (turned_overfull p firing_makes)

pub firing_all : {src : Source} {x : ℕ} {t u : Table} {limit : ℕ} {start rest marked : List Cell} → rest ≡ [] → Firing src x t u limit start rest marked
    → Ends src x 0 start (content t) (λ s b i. Has (content u) s t.place b i)
firing_all e f c b i s m stays n = ⊎_elim (λ r. elim (subst (λ v. Mem (cell b i) v) e r) [ ]) (λ h. h) (f.fired b i s m n)

-- One link down from the cells `cs` stand the cells `ds`.
pub ends_step : (src : Source) (x m : ℕ) {cs ds : List Cell} {xs : List Link} (Q : ℕ → ℕ → ℕ → Type 0) → Spread xs cs ds → Ends src x (suc m) cs xs Q
    → Ends src x m ds xs Q
ends_step src x m {xs = xs} Q sp e c b i s h l =
    let (k, mem, up, is) = sp.sound c h in
    e (upper k) b i s up (goes k mem (subst (λ v. Leads xs m v (cell b i)) (sym is) l))

pub ends_back : (src : Source) (x m : ℕ) {cs ds : List Cell} {xs : List Link} (Q : ℕ → ℕ → ℕ → Type 0) → Spread xs cs ds → Ends src x m ds xs Q
    → Ends src x (suc m) cs xs Q
ends_back src x m {cs} {xs = xs} Q sp e c b i s h l n = go h l refl
  where
    go : {c d : Cell} → Mem c cs → Leads xs (suc m) c d → d ≡ cell b i → Q s b i
    go up (goes k mem rest) is = e (lower k) b i s (sp.whole k mem up) (subst (λ v. Leads xs m (lower k) v) is rest) n

-- The cells that have their link.
pub marked_all : (src : Source) (x : ℕ) (t : Table) (cs : List Cell) {ys : List Link} {ds : List Cell} → OfPlace (content t) t.place ys
    → Picked (λ (l : Link). Mem (lower l) cs × (src.next l.below x ≡ Some l.state)) lower ys [] ds → Marked src x t.place (content t) cs ds
marked_all src x t cs {ys} {ds} at_place p = record {
  whole = λ b i s m n h. p.whole (lnk s t.place b i) ((at_place (lnk s t.place b i)).1 (h, refl)) (m, n);
  sound = λ c m. ⊎_elim
      (λ (z : Mem c []). elim z [ ])
      (λ y.
      let l = y.0 in
      let (mem, place) = (at_place l).0 y.1 in
      let has : Has (content t) l.state t.place l.below l.below_place = subst (λ v. Has (content t) l.state v l.below l.below_place) place mem in (
        l.state,
        subst (λ (v : Cell). src.next v.state x ≡ Some l.state) y.3 y.2.1,
        subst (λ (v : Cell). Has (content t) l.state t.place v.state v.place) y.3 has,
      ))
      (p.sound c m);
}

-- The rules below n, over the links at the round's start.
pub record Rules (src : Source) (t u : Table) (limit n : ℕ) : Type 0 where
  pub along : Along src None t u limit
  pub fired : (r : ℕ) → r < n → r < rule_count src.grammar → Fired src t.place r (content t) (content u)

pub no_rules : (src : Source) (t : Table) (limit : ℕ) → Rules src t t limit 0
no_rules src t limit = record { along = along_same src None t limit; fired = λ r lt. absurd (omega arith) }

pub one_rule : {src : Source} {t u v : Table} {limit n : ℕ} → Rules src t u limit n → Along src None u v limit
    → Fired src u.place n (content u) (content v) → Rules src t v limit (n + 1)
one_rule {src} {t} {u} {v} {n = n} a b f =
    let g : Grown src None t.place (content u) (content v) = subst (λ p. Grown src None p (content u) (content v)) a.along.kept.place b.grown in
    record {
      along = along_more a.along b;
      fired = λ r lt h. ⊎_elim
          (λ (low : r < n). fired_more g (a.fired r low h))
          (λ (high : n ≤ r). let is : n ≡ r = omega arith in
          fired_less a.along.grown (subst (λ p. Fired src p r (content u) (content v)) a.along.kept.place (subst (λ z. Fired src u.place z (content u) (content v)) is f)))
          (cases_lt r n);
    }

-- What a round asks of the place where it begins to look.
pub ahead_more : {src : Source} {t u : Table} {limit from : ℕ} → Along src None t u limit → Ahead src t from → Ahead src u from
ahead_more {src} {t} {u} {limit} {from} a h =
    let e = long t in
    let le : from ≤ length (content t) = (let q = h.until in omega arith) in
    let p = sym a.kept.place in
    record {
      since = subst (λ z. get_or u.starts z 0 ≤ from) p (subst (λ z. get_or z t.place 0 ≤ from) (sym a.kept.starts) h.since);
      until = (let q = h.until in let m = count_more t u a.grown in omega arith);
      fresh = subst (λ z. Fresh z from (content u)) p (fresh_more le a.grown h.fresh);
      before = subst (λ z. Before src z from (content u)) p (before_more le a.grown h.before);
    }

-- At the start of the last place nothing has been reduced, and nothing stays.
pub ahead_start : {src : Source} (t : Table) (n : ℕ) → StartsAt t t.place n → Ahead src t n
ahead_start {src} t n a = record {
  since = (let q = a.mark (omega arith) in omega arith);
  until = a.within;
  fresh = λ s b m. none s b t.place m;
  before = λ r t' s b i c h rule done first. absurd (none t' c h first);
}
  where
    none : (s b i : ℕ) → Has (take n (content t)) s t.place b i → ⊥
    none s b i m =
        let q = long t in
        let w = a.within in
        let (k, lt, e) = take_index (content t) n (lnk 0 0 0 0) (omega arith) m in
        let z : (at t.links k).place ≡ t.place = ap (λ (v : Link). v.place) (sym (content_at t k (omega arith)) ∙ e) in
        let y = a.under k lt in
        omega arith

pub ahead_again : {src : Source} {t u : Table} {limit : ℕ} (n : ℕ) → Along src None t u limit → StartsAt t t.place n → Ahead src u n
ahead_again {t = t} {u = u} n a s =
    let e : get_or u.starts u.place 0 ≡ n = ap (λ z. get_or u.starts z 0) a.kept.place ∙ ap (λ z. get_or z t.place 0) a.kept.starts ∙ sym (s.mark (omega arith)) in
    ahead_start u n (subst (λ v. StartsAt u u.place v) e (starts_in u u.place (omega arith)))

-- After a round, the links that were there when it began are reduced.
pub ahead_next : {src : Source} {t u : Table} {limit : ℕ} (n : ℕ) → Along src None t u limit → n ≡ t.count → get_or t.starts t.place 0 ≤ n
    → ((r : ℕ) → r < rule_count src.grammar → Fired src t.place r (content t) (content u))
    → ((s b : ℕ) → Has (content u) s u.place b u.place → ⊥) → Ahead src u n
ahead_next {src} {t} {u} n a e since fired stay =
    let q = long t in
    let is : length (content t) ≡ n = q ∙ sym e in
    let p = sym a.kept.place in
    record {
      since = subst (λ z. get_or u.starts z 0 ≤ n) p (subst (λ z. get_or z t.place 0 ≤ n) (sym a.kept.starts) since);
      until = (let m = count_more t u a.grown in omega arith);
      fresh = λ s b m. stay s b (mem_front n (content u) m);
      before = subst (λ z. Before src z n (content u)) p (subst (λ z. Before src t.place z (content u)) is (fired_before a.grown fired));
    }

-- A round that adds nothing leaves the place shut.
pub shut_now : {src : Source} {t u v : Table} {limit : ℕ} → Along src None t u limit → Along src None u v limit → v.count ≡ u.count
    → ((r : ℕ) → r < rule_count src.grammar → Fired src u.place r (content u) (content v)) → Shut src t.place (content v)
shut_now {src} {t} {u} {v} a b e f r lt =
    subst (λ p. Fired src p r (content v) (content v)) a.kept.place
    (subst (λ z. Fired src u.place r z (content v)) (sym (content_same u v b.grown e)) (f r lt))
