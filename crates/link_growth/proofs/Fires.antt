-- The reductions of one rule: what the cells that they reach give, and why nothing is missed.
use Rattle.std.proofs.Common.{◌≡◌, ℕ, suc, ◌<◌, ◌≤◌, true, List, [], length, take, drop, Some, None, Option, sym, ap, ◌∙◌, subst, inl, inr, ⊎_elim, arith, take_all}
use Rattle.std.proofs.lemmas.Bool.{cases_lt}
use Rattle.parsing.specs.Grammar.{rule_count, lhs, rhs}
use Rattle.parsing.specs.Items.{Source}
use Rattle.parsing.specs.Links.{ChainOf, stay_of, down_of, LiveOf}
use Rattle.link_growth.specs.declared.Link.{Link}
use Rattle.link_growth.specs.declared.Cell.{Cell}
use Rattle.link_growth.specs.Entries.{lnk, Mem, Has, cell, lower, Leads, stays}
use Rattle.link_growth.specs.Growth.{Makes, reduces, Grown, Fired, Before, Fresh, Laid, Ends}
use Rattle.link_growth.specs.Picking.{Picked, Tops}
use Rattle.link_growth.proofs.Members.{mem_drop, mem_parts}
use Rattle.link_growth.proofs.Grows.{chain_more, live_more, chain_leads, leads_chain, grown_has, grown_front}

-- A chain that begins below j is among the first links.
chain_old : {j n : ℕ} {xs : List Link} → Laid j n xs → {m t k b i : ℕ} → k < j → ChainOf (Has xs) m t k b i → ChainOf (Has (take n xs)) m t k b i
chain_old laid lt stay_of = stay_of
chain_old {j} laid lt (down_of {t = t} {j = p} {s = s} {k = k} h c) =
    let f = laid.falls t p s k h in
    down_of (laid.old t p s k h (λ (e : p ≡ j). absurd (omega arith))) (chain_old laid (omega arith) c)

module _ {src : Source} {j r n : ℕ} {xs : List Link} (laid : Laid j n xs) (rule : r < rule_count src.grammar) where
  -- A rule with right symbols: the cells below the links of the states in which it is done.
  pub long_allowed : {cs : List Cell} (m : ℕ) → length (rhs src.grammar r) ≡ suc m
      → Picked (λ (l : Link). src.done l.state r ≡ true) lower (drop n xs) [] cs → Ends src (lhs src.grammar r) m cs xs (Makes src None j xs)
  long_allowed {cs} m long p c b i s h leads next =
      ⊎_elim
      (λ (z : Mem c []). elim z [ ])
      (λ x.
      let a = x.0 in
      let has : Has xs a.state j a.below a.below_place = subst (λ v. Has xs a.state v a.below a.below_place) (laid.here a x.1) (mem_drop n xs x.1) in
      let chain : ChainOf (Has xs) (suc m) a.state j b i = down_of has (leads_chain (subst (λ v. Leads xs m v (cell b i)) (sym x.3) leads)) in
      reduces r a.state rule (inr (a.below, a.below_place, has)) (subst (λ v. ChainOf (Has xs) v a.state j b i) (sym long) chain) x.2 next)
      (p.sound c h)

  pub long_fired : {ys : List Link} {cs : List Cell} (m : ℕ) → length (rhs src.grammar r) ≡ suc m → Fresh j n xs → Before src j n xs → Grown src None j xs ys
      → Picked (λ (l : Link). src.done l.state r ≡ true) lower (drop n xs) [] cs
      → Ends src (lhs src.grammar r) m cs xs (λ s b i. Has ys s j b i) → Fired src j r xs ys
  long_fired {ys} {cs} m long fresh before g p ends t s b i done live chain next =
      go (subst (λ v. ChainOf (Has xs) v t j b i) long chain)
    where
      go : ChainOf (Has xs) (suc m) t j b i → Has ys s j b i
      go (down_of {s = u} {k = q} h c) =
          ⊎_elim
          (λ (old : Has (take n xs) t j u q).
          let f = laid.falls t j u q h in
          let ne : q ≡ j → ⊥ = λ (e : q ≡ j). fresh t u (subst (λ v. Has (take n xs) t j u v) e old) in
          let below : q < j = ⊎_elim (λ (y : q < j). y) (λ (y : j ≤ q). absurd (ne (omega arith))) (cases_lt q j) in
          let c' : ChainOf (Has (take n xs)) (length (rhs src.grammar r)) t j b i =
          subst (λ v. ChainOf (Has (take n xs)) v t j b i) (sym long) (down_of old (chain_old laid below c)) in
          grown_has g s j b i (before r t s b i u q rule done old c' next))
          (λ (late : Mem (lnk t j u q) (drop n xs)). ends (cell u q) b i s (p.whole (lnk t j u q) late done) (chain_leads c) next)
          (mem_parts n xs h)

  -- An empty rule: the cells of the states in which it is done.
  pub empty_allowed : {cs : List Cell} → length (rhs src.grammar r) ≡ 0 → Tops src j r n xs cs → Ends src (lhs src.grammar r) 0 cs xs (Makes src None j xs)
  empty_allowed long p c b i s h stays next =
      let (place, live, done) = p.sound c h in
      let chain : ChainOf (Has xs) (length (rhs src.grammar r)) b j b i =
      subst (λ v. ChainOf (Has xs) v b j b i) (sym long) (subst (λ v. ChainOf (Has xs) 0 b v b i) place stay_of) in
      reduces r b rule live chain done next

  pub empty_fired : {ys : List Link} {cs : List Cell} → length (rhs src.grammar r) ≡ 0 → Before src j n xs → Grown src None j xs ys
      → Tops src j r n xs cs → Ends src (lhs src.grammar r) 0 cs xs (λ s b i. Has ys s j b i) → Fired src j r xs ys
  empty_fired {ys} {cs} long before g p ends t s b i done live chain next =
      go (subst (λ v. ChainOf (Has xs) v t j b i) long chain) next live
    where
      go : {b i : ℕ} → ChainOf (Has xs) 0 t j b i → src.next b (lhs src.grammar r) ≡ Some s → LiveOf src (Has xs) t j → Has ys s j b i
      go stay_of next (inl (e, z)) =
          let here : Mem (cell t j) cs = subst (λ v. Mem (cell t v) cs) (sym z) (subst (λ v. Mem (cell v 0) cs) (sym e) (p.first z (ap (λ v. src.done v r) (sym e) ∙ done))) in
          ends (cell t j) t j s here stays next
      go stay_of next (inr (u, q, h)) =
          ⊎_elim
          (λ (old : Has (take n xs) t j u q).
          grown_has g s j t j (before r t s t j u q rule done old (subst (λ v. ChainOf (Has (take n xs)) v t j t j) (sym long) stay_of) next))
          (λ (late : Mem (lnk t j u q) (drop n xs)). ends (cell t j) t j s (p.whole (lnk t j u q) late done) stays next)
          (mem_parts n xs h)

-- What is known of the first links stays known as others come behind.
pub before_more : {src : Source} {j n : ℕ} {xs ys : List Link} → n ≤ length xs → Grown src None j xs ys → Before src j n xs → Before src j n ys
before_more {src} {j} {n} {xs} {ys} le g before = λ r t s b i c h rule done first chain next.
    let e : take n ys ≡ take n xs = grown_front n le g in
    grown_has g s j b i (before r t s b i c h rule done
    (subst (λ v. Has v t j c h) e first) (subst (λ v. ChainOf (Has v) (length (rhs src.grammar r)) t j b i) e chain) next)

pub fresh_more : {src : Source} {w : Option ℕ} {j n : ℕ} {xs ys : List Link} → n ≤ length xs → Grown src w j xs ys → Fresh j n xs → Fresh j n ys
fresh_more {j = j} {n = n} le g fresh = λ s b h. fresh s b (subst (λ v. Has v s j b j) (grown_front n le g) h)

-- What is fired is fired when more links have come behind, and it serves the next round.
pub fired_more : {src : Source} {j r : ℕ} {xs ys zs : List Link} → Grown src None j ys zs → Fired src j r xs ys → Fired src j r xs zs
fired_more {j = j} g f = λ t s b i d l c e. grown_has g s j b i (f t s b i d l c e)

pub fired_less : {src : Source} {j r : ℕ} {xs ys zs : List Link} → Grown src None j xs ys → Fired src j r ys zs → Fired src j r xs zs
fired_less {src} g f = λ t s b i d l c e. f t s b i d (live_more src (grown_has g) l) (chain_more (grown_has g) c) e

pub fired_before : {src : Source} {j : ℕ} {xs ys : List Link} → Grown src None j xs ys → ((r : ℕ) → r < rule_count src.grammar → Fired src j r xs ys)
    → Before src j (length xs) ys
fired_before {src} {j} {xs} {ys} g f = λ r t s b i c h rule done first chain next.
    let e : take (length xs) ys ≡ xs = grown_front (length xs) (omega arith) g ∙ take_all (length xs) xs (omega arith) in
    f r rule t s b i done (inr (c, h, subst (λ v. Has v t j c h) e first)) (subst (λ v. ChainOf (Has v) (length (rhs src.grammar r)) t j b i) e chain) next
