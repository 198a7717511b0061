-- Sets of cells as they are filled and emptied.
use Rattle.std.proofs.Common.{◌≡◌, ℕ, ◌<◌, ◌≤◌, ◌⊎◌, true, List, [], ◌∷◌, map, length, get_or, drop, sym, ap, ◌∙◌, subst, refl, inl, inr, ⊎_elim, arith, Some, None, Option, ◌+◌, ◌↔◌}
use Rattle.std.proofs.lemmas.List.{length-map}
use Rattle.std.proofs.lemmas.Bool.{cases_lt}
use Rattle.parsing.specs.Items.{Source}
use Rattle.link_growth.specs.declared.Link.{Link}
use Rattle.link_growth.specs.declared.Cell.{Cell}
use Rattle.link_growth.specs.Entries.{at, lnk, Mem, head, tail, Once, Has, cell, upper, lower, Spread}
use Rattle.link_growth.specs.Picking.{Inserted, Picked, Tops}
use Rattle.link_growth.proofs.Members.{mem_at, mem_index, mem_drop}
use Rattle.link_growth.proofs.Picks.{room, mem_map}
use Rattle.links.specs.declared.table.Table.{Table}
use Rattle.links.specs.declared.cells.Cells.{Cells}
use Rattle.links.specs.Listing.{place_at}
use Rattle.links.specs.Sets.{cells_of, Roomy, Collected}
use Rattle.links.specs.Tables.{content, Drawn, Scanned, Bottom}
use Rattle.links.proofs.Sieves.{OfPlace}
use Rattle.links.proofs.Members.{each_once}
use Rattle.links.proofs.Contents.{long, laid_from}

none_some : {c : Cell} → None ≡ Some c → ⊥
none_some e = let z : ◌≡◌ {A = ℕ} 0 1 = cc in absurd (omega arith)

some_same : {c d : Cell} → Some c ≡ Some d → c ≡ d
some_same e = cc

-- What is asked of each link: R gives the cell f l of a link l with P, and of no other.
abbrev pub Says : (Link → Option Cell → Type 0) → (Link → Type 0) → (Link → Cell) → Type 0
Says R P f = (l : Link) (r : Option Cell) → R l r → (P l → r ≡ Some (f l)) × ((c : Cell) → r ≡ Some c → P l × (f l ≡ c))

pub collected_picked : {R : Link → Option Cell → Type 0} (P : Link → Type 0) (f : Link → Cell) → Says R P f → {xs : List Link} {old new : List Cell}
    → Collected R xs old new → Picked P f xs old new
collected_picked P f says q = record {
  kept = q.kept;
  whole = λ l m h. let (r, k, there) = q.whole l m in there (f l) ((says l r k).0 h);
  sound = λ c m. ⊎_elim inl (λ x. let (p, e) = (says x.0 (Some c) x.2).1 c refl in inr (x.0, x.1, p, e)) (q.sound c m);
}

-- The first n of some links have been asked.
pub record Collecting (R : Link → Option Cell → Type 0) (xs : List Link) (n : ℕ) (old new : List Cell) : Type 0 where
  pub kept : (c : Cell) → Mem c old → Mem c new
  pub whole : (k : ℕ) → k < n → (r : Option Cell) × R (at xs k) r × ((c : Cell) → r ≡ Some c → Mem c new)
  pub sound : (c : Cell) → Mem c new → Mem c old ⊎ ((k : ℕ) × (k < n) × R (at xs k) (Some c))

module _ {R : Link → Option Cell → Type 0} {xs : List Link} {n : ℕ} {old new : List Cell} (p : Collecting R xs n old new) where
  pub collecting_passed : R (at xs n) None → Collecting R xs (n + 1) old new
  collecting_passed here = record {
    kept = p.kept;
    whole = λ k lt. ⊎_elim (λ (y : k < n). p.whole k y)
        (λ (y : n ≤ k). let is : n ≡ k = omega arith in (None, subst (λ v. R (at xs v) None) is here, λ c (e : None ≡ Some c). absurd (none_some e))) (cases_lt k n);
    sound = λ c m. ⊎_elim inl (λ x. inr (x.0, (let lt = x.1 in omega arith), x.2)) (p.sound c m);
  }

  pub collecting_taken : {more : List Cell} (c : Cell) → R (at xs n) (Some c) → Inserted c new more → Collecting R xs (n + 1) old more
  collecting_taken {more} c here i = record {
    kept = λ d m. i.kept d (p.kept d m);
    whole = λ k lt. ⊎_elim
        (λ (y : k < n). let (r, q, there) = p.whole k y in (r, q, λ d e. i.kept d (there d e)))
        (λ (y : n ≤ k). let is : n ≡ k = omega arith in (Some c, subst (λ v. R (at xs v) (Some c)) is here, λ d (e : Some c ≡ Some d). subst (λ v. Mem v more) (some_same e) i.there)) (cases_lt k n);
    sound = λ d m. ⊎_elim
        (λ o. ⊎_elim inl (λ x. inr (x.0, (let lt = x.1 in omega arith), x.2)) (p.sound d o))
        (λ (e : d ≡ c). inr (n, (omega arith), subst (λ v. R (at xs n) (Some v)) (sym e) here))
        (i.sound d m);
  }

  -- There is room for one more.
  pub collecting_room : (s : Cells) → cells_of s ≡ new → Roomy R xs old → (c : Cell) → n < length xs → R (at xs n) (Some c) → (Mem c new → ⊥) → length new < 4097
  collecting_room s is r c lt here none =
      let all : (d : Cell) → Mem d new → Mem d r.among =
      (λ d m. ⊎_elim (r.old d) (λ x. r.new (at xs x.0) d (mem_at xs x.0 (lnk 0 0 0 0) (let q = x.1 in omega arith)) x.2) (p.sound d m)) in
      let m = room new r.among c (subst Once is (each_once s)) all (r.new (at xs n) c (mem_at xs n (lnk 0 0 0 0) lt) here) none in
      let f = r.few in
      omega arith

  pub collecting_all : n ≤ length xs → length xs ≤ n → Collected R xs old new
  collecting_all inside end = record {
    kept = p.kept;
    whole = λ l m. let (k, lt, e) = mem_index (lnk 0 0 0 0) m in
        let (r, q, there) = p.whole k (omega arith) in (r, subst (λ v. R v r) e q, there);
    sound = λ c m. ⊎_elim inl (λ x. inr (at xs x.0, mem_at xs x.0 (lnk 0 0 0 0) (let q = x.1 in omega arith), x.2)) (p.sound c m);
  }

-- The lower ends of the links of a table.
pub lower_room : (t : Table) {R : Link → Option Cell → Type 0} (P : Link → Type 0) → Says R P lower → {xs : List Link} {cs : List Cell}
    → ((l : Link) → Mem l xs → Mem l (content t)) → Drawn (content t) cs → Roomy R xs cs
lower_room t P says among drawn = record {
  among = map lower (content t);
  few = (let e = length-map (content t) lower in let q = long t in omega (arith, t.few));
  old = drawn;
  new = λ l c m k. subst (λ v. Mem v (map lower (content t))) ((says l (Some c) k).1 c refl).1 (mem_map lower (among l m));
}

-- Their upper ends, and one cell besides.
pub upper_room : (t : Table) (f : Cell) {R : Link → Option Cell → Type 0} (P : Link → Type 0) → Says R P upper → {xs : List Link} {cs : List Cell}
    → ((l : Link) → Mem l xs → Mem l (content t)) → ((c : Cell) → Mem c cs → c ≡ f) → Roomy R xs cs
upper_room t f P says among one = record {
  among = f ∷ map upper (content t);
  few = (let e = length-map (content t) upper in let q = long t in omega (arith, t.few));
  old = λ c m. subst (λ v. Mem v (f ∷ map upper (content t))) (sym (one c m)) head;
  new = λ l c m k. tail (subst (λ v. Mem v (map upper (content t))) ((says l (Some c) k).1 c refl).1 (mem_map upper (among l m)));
}

pub drawn_empty : (t : Table) {cs : List Cell} → cs ≡ [] → Drawn (content t) cs
drawn_empty t e c m = elim (subst (λ v. Mem c v) e m) [ ]

-- All links of one place are scanned.
pub scanned : (xs : List Link) (cs : List Cell) (p : ℕ) {ys : List Link} {old new : List Cell} → OfPlace xs p ys
    → Picked (λ (l : Link). Mem (cell l.state p) cs) lower ys old new → Scanned xs cs p old new
scanned xs cs p at_place q = record {
  kept = q.kept;
  whole = λ l mem place up. q.whole l ((at_place l).1 (mem, place)) (subst (λ v. Mem (cell l.state v) cs) place up);
  sound = λ d h. ⊎_elim inl
      (λ x. let (mem, place) = (at_place x.0).0 x.1 in let l = x.0 in inr (l, mem, subst (λ v. Mem (cell l.state v) cs) (sym place) x.2, x.3))
      (q.sound d h);
}

-- The places of the first k cells are scanned.
pub record Spreading (xs : List Link) (cs : List Cell) (k : ℕ) (out : List Cell) : Type 0 where
  pub whole : (h : ℕ) → h < k → (l : Link) → Mem l xs → l.place ≡ place_at cs h → Mem (upper l) cs → Mem (lower l) out
  pub sound : (c : Cell) → Mem c out → (l : Link) × Mem l xs × Mem (upper l) cs × (lower l ≡ c)

pub spreading_drawn : {xs : List Link} {cs : List Cell} {k : ℕ} {out : List Cell} → Spreading xs cs k out → Drawn xs out
spreading_drawn {xs} s c m = let (l, mem, up, e) = s.sound c m in subst (λ v. Mem v (map lower xs)) e (mem_map lower mem)

pub spreading_all : {xs : List Link} {cs : List Cell} {k : ℕ} {out : List Cell} → length cs ≤ k → Spreading xs cs k out → Spread xs cs out
spreading_all {cs = cs} end s = record {
  whole = λ l mem up.
      let (h, lt, e) = mem_index (cell 0 0) up in
      s.whole h (omega arith) l mem (sym (ap (λ (v : Cell). v.place) e)) up;
  sound = s.sound;
}

-- The cells of a round's states.
pub tops : (src : Source) (t : Table) (r n : ℕ) {old new : List Cell} → get_or t.starts t.place 0 ≤ n → n ≤ t.count → Bottom src t.place r old
    → Picked (λ (l : Link). src.done l.state r ≡ true) upper (drop n (content t)) old new → Tops src t.place r n (content t) new
tops src t r n {old} {new} since until b p = record {
  first = λ z d. p.kept (cell src.first 0) (b.whole z d);
  whole = p.whole;
  sound = λ c m. ⊎_elim
      (λ o.
      let (e, z, d) = b.sound c o in
      let st : c.state ≡ src.first = ap (λ (v : Cell). v.state) e in
      (ap (λ (v : Cell). v.place) e ∙ sym z, inl (st, z), ap (λ v. src.done v r) st ∙ d))
      (λ x.
      let l = x.0 in
      let place : l.place ≡ t.place = (laid_from t n since until).here l x.1 in
      let has : Has (content t) l.state t.place l.below l.below_place =
      subst (λ v. Has (content t) l.state v l.below l.below_place) place (mem_drop n (content t) x.1) in (
        sym (ap (λ (v : Cell). v.place) x.3) ∙ place,
        inr (l.below, l.below_place, subst (λ (v : Cell). Has (content t) v.state t.place l.below l.below_place) x.3 has),
        subst (λ (v : Cell). src.done v.state r ≡ true) x.3 x.2,
      ))
      (p.sound c m);
}

-- The first state, alone or not.
pub bottom_none : (src : Source) (j r : ℕ) {cs : List Cell} → (j ≡ 0 → src.done src.first r ≡ true → ⊥) → cs ≡ [] → Bottom src j r cs
bottom_none src j r none e = record { whole = λ z d. absurd (none z d); sound = λ c m. elim (subst (λ v. Mem c v) e m) [ ] }

pub bottom_here : (src : Source) (j r : ℕ) (x : Cell) {old new : List Cell} → j ≡ 0 → src.done src.first r ≡ true → x ≡ cell src.first 0 → old ≡ []
    → Inserted x old new → Bottom src j r new
bottom_here src j r x {old} {new} z d is none i = record {
  whole = λ _ _. subst (λ v. Mem v new) is i.there;
  sound = λ c m. ⊎_elim (λ o. elim (subst (λ v. Mem c v) none o) [ ]) (λ (e : c ≡ x). (e ∙ is, z, d)) (i.sound c m);
}
