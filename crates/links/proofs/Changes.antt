-- The bounds of a table as it changes.
use Rattle.std.proofs.Common.{◌≡◌, ℕ, ◌+◌, ◌<◌, ◌≤◌, ◌≢◌, length, get_or, set, sym, refl, ap, ◌∙◌, subst, ⊎_elim, arith, get_or-set_other, get_or-set_same}
use Rattle.std.proofs.lemmas.Bool.{cases_eq, cases_lt}
use Rattle.link_growth.specs.declared.Link.{Link}
use Rattle.link_growth.specs.Entries.{lnk, at, Mem}
use Rattle.links.specs.declared.table.Table.{Table}
use Rattle.links.specs.Tables.{content, StartsAt}
use Rattle.links.proofs.Contents.{member}

-- Where the links of a place begin.
pub starts_in : (t : Table) (i : ℕ) → i ≤ t.place → StartsAt t i (get_or t.starts i 0)
starts_in t i le = record { within = t.within i le; under = λ k lt. t.under i k le lt; over = λ k lo hi. t.over i k (le, lo, hi); mark = λ _. refl }

-- A link of the last place is added.
module _ (t : Table) (l : Link) (room : t.count < length t.links) (here : l.place ≡ t.place) where
  old : (k : ℕ) → k < t.count → at (set t.links t.count l) k ≡ at t.links k
  old k lt = let ne : k ≢ t.count = omega arith in get_or-set_other t.links t.count k l (lnk 0 0 0 0) ne

  pub add_under : (i k : ℕ) → i ≤ t.place → k < get_or t.starts i 0 → (at (set t.links t.count l) k).place < i
  add_under i k le lt =
      let w = t.within i le in
      subst (λ (v : Link). v.place < i) (sym (old k (omega arith))) (t.under i k le lt)

  pub add_over : (i k : ℕ) → (i ≤ t.place) × (get_or t.starts i 0 ≤ k) × (k < t.count + 1) → i ≤ (at (set t.links t.count l) k).place
  add_over i k (le, lo, hi) =
      ⊎_elim
      (λ (y : k < t.count). subst (λ (v : Link). i ≤ v.place) (sym (old k y)) (t.over i k (le, lo, y)))
      (λ (y : t.count ≤ k).
      let is : k ≡ t.count = omega arith in
      subst (λ v. i ≤ (at (set t.links t.count l) v).place) (sym is)
      (subst (λ (v : Link). i ≤ v.place) (sym (get_or-set_same t.links t.count l (lnk 0 0 0 0) room)) (omega arith)))
      (cases_lt k t.count)

  pub add_once : (Mem l (content t) → ⊥) → (h k : ℕ) → h < k → k < t.count + 1 → at (set t.links t.count l) h ≢ at (set t.links t.count l) k
  add_once fresh h k lo hi e =
      ⊎_elim
      (λ (y : k < t.count). t.once h k lo y (sym (old h (omega arith)) ∙ e ∙ old k y))
      (λ (y : t.count ≤ k).
      let is : k ≡ t.count = omega arith in
      let last : at (set t.links t.count l) k ≡ l =
      ap (λ v. at (set t.links t.count l) v) is ∙ get_or-set_same t.links t.count l (lnk 0 0 0 0) room in
      fresh (subst (λ v. Mem v (content t)) (sym (old h (omega arith)) ∙ e ∙ last) (member t h (omega arith))))
      (cases_lt k t.count)

-- A place is begun.
module _ (t : Table) (p q : ℕ) (is : p ≡ t.place + 1) (here : q ≡ p) (slot : q < length t.starts) where
  pub begin_within : (i : ℕ) → i ≤ p → get_or (set t.starts q t.count) i 0 ≤ t.count
  begin_within i le =
      ⊎_elim
      (λ (e : i ≡ q). subst (λ v. get_or (set t.starts q t.count) v 0 ≤ t.count) (sym e) (subst (λ v. v ≤ t.count) (sym (get_or-set_same t.starts q t.count 0 slot)) (omega arith)))
      (λ (ne : i ≡ q → ⊥). subst (λ v. v ≤ t.count) (sym (get_or-set_other t.starts q i t.count 0 ne)) (t.within i (below i le ne)))
      (cases_eq i q)
    where
      below : (i : ℕ) → i ≤ p → (i ≡ q → ⊥) → i ≤ t.place
      below i le ne = ⊎_elim (λ (y : i < p). omega arith) (λ (y : p ≤ i). absurd (ne (omega arith))) (cases_lt i p)

  pub begin_under : (i k : ℕ) → i ≤ p → k < get_or (set t.starts q t.count) i 0 → (at t.links k).place < i
  begin_under i k le lt =
      ⊎_elim
      (λ (e : i ≡ q).
      let z : get_or (set t.starts q t.count) i 0 ≡ t.count = ap (λ v. get_or (set t.starts q t.count) v 0) e ∙ get_or-set_same t.starts q t.count 0 slot in
      let r = t.high k (omega arith) in
      omega arith)
      (λ (ne : i ≡ q → ⊥).
      let z = get_or-set_other t.starts q i t.count 0 ne in
      t.under i k (⊎_elim (λ (y : i < p). omega arith) (λ (y : p ≤ i). absurd (ne (omega arith))) (cases_lt i p)) (omega arith))
      (cases_eq i q)

  pub begin_over : (i k : ℕ) → (i ≤ p) × (get_or (set t.starts q t.count) i 0 ≤ k) × (k < t.count) → i ≤ (at t.links k).place
  begin_over i k (le, lo, hi) =
      ⊎_elim
      (λ (e : i ≡ q).
      let z : get_or (set t.starts q t.count) i 0 ≡ t.count = ap (λ v. get_or (set t.starts q t.count) v 0) e ∙ get_or-set_same t.starts q t.count 0 slot in
      absurd (omega arith))
      (λ (ne : i ≡ q → ⊥).
      let z = get_or-set_other t.starts q i t.count 0 ne in
      t.over i k (⊎_elim (λ (y : i < p). omega arith) (λ (y : p ≤ i). absurd (ne (omega arith))) (cases_lt i p), omega arith, hi))
      (cases_eq i q)

-- The table is cut back to the place k.
module _ (t : Table) (k n : ℕ) (le : k ≤ t.place) (a : StartsAt t (k + 1) n) where
  pub cut_within : (i : ℕ) → i ≤ k → get_or t.starts i 0 ≤ n
  cut_within i h =
      ⊎_elim
      (λ (bad : n < get_or t.starts i 0).
      let w = t.within i (omega arith) in
      let p = t.under i n (omega arith) bad in
      let q = a.over n (omega arith) (omega arith) in
      absurd (omega arith))
      (λ (good : get_or t.starts i 0 ≤ n). good)
      (cases_lt n (get_or t.starts i 0))

-- The table is emptied.
pub no_start : (t : Table) (i : ℕ) → i ≤ 0 → get_or t.starts i 0 ≤ 0
no_start t i le =
    ⊎_elim
    (λ (bad : 0 < get_or t.starts i 0). let p = t.under i 0 (omega arith) bad in absurd (omega arith))
    (λ (good : get_or t.starts i 0 ≤ 0). good)
    (cases_lt 0 (get_or t.starts i 0))
