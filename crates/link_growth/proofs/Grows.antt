-- How lists of links grow, and what chains and live states keep meanwhile.
use Rattle.std.proofs.Common.{◌≡◌, ℕ, ◌≤◌, List, [], ◌∷◌, length, take, None, Option, refl, ap, ◌∙◌, inl, inr, ⊎_elim, arith, length-append}
use lib.Seq.{take-append-le}
use Rattle.std.proofs.lemmas.List.{length_push}
use Rattle.parsing.specs.Items.{Source}
use Rattle.parsing.specs.Links.{ChainOf, stay_of, down_of, LiveOf}
use Rattle.link_growth.specs.declared.Link.{Link}
use Rattle.link_growth.specs.declared.Cell.{Cell}
use Rattle.link_growth.specs.Entries.{lnk, Mem, Has, cell, Leads, stays, goes}
use Rattle.link_growth.specs.Growth.{Makes, shifts, reduces, Grown, same, add, Overfull}
use Rattle.link_growth.proofs.Members.{mem_left, mem_split}

-- Chains and live states over more links.
pub chain_more : {K L : ℕ → ℕ → ℕ → ℕ → Type 0} → ((s j b i : ℕ) → K s j b i → L s j b i) → {m t j b i : ℕ} → ChainOf K m t j b i → ChainOf L m t j b i
chain_more f stay_of = stay_of
chain_more f (down_of {t = t} {j = j} {s = s} {k = h} k c) = down_of (f t j s h k) (chain_more f c)

pub live_more : {K L : ℕ → ℕ → ℕ → ℕ → Type 0} (src : Source) → ((s j b i : ℕ) → K s j b i → L s j b i) → {b i : ℕ} → LiveOf src K b i → LiveOf src L b i
live_more src f (inl e) = inl e
live_more src f {b} {i} (inr x) = inr (x.0, x.1, f b i x.0 x.1 x.2)

-- A chain of links leads from cell to cell.
pub chain_leads : {xs : List Link} {m t j b i : ℕ} → ChainOf (Has xs) m t j b i → Leads xs m (cell t j) (cell b i)
chain_leads stay_of = stays
chain_leads (down_of {t = t} {j = j} {s = s} {k = k} l c) = goes (lnk t j s k) l (chain_leads c)

pub leads_chain : {xs : List Link} {m : ℕ} {c d : Cell} → Leads xs m c d → ChainOf (Has xs) m c.state c.place d.state d.place
leads_chain stays = stay_of
leads_chain (goes l h p) = down_of h (leads_chain p)

-- Growth keeps what there is.
pub grown_mem : {src : Source} {w : Option ℕ} {j : ℕ} {xs ys : List Link} → Grown src w j xs ys → {l : Link} → Mem l xs → Mem l ys
grown_mem same m = m
grown_mem (add g k n) m = mem_left _ (grown_mem g m)

pub grown_has : {src : Source} {w : Option ℕ} {p : ℕ} {xs ys : List Link} → Grown src w p xs ys → (s j b i : ℕ) → Has xs s j b i → Has ys s j b i
grown_has g s j b i m = grown_mem g {l = lnk s j b i} m

pub grown_trans : {src : Source} {w : Option ℕ} {j : ℕ} {xs ys zs : List Link} → Grown src w j xs ys → Grown src w j ys zs → Grown src w j xs zs
grown_trans g same = g
grown_trans g (add h k n) = add (grown_trans g h) k n

pub grown_long : {src : Source} {w : Option ℕ} {j : ℕ} {xs ys : List Link} → Grown src w j xs ys → length xs ≤ length ys
grown_long same = omega arith
grown_long (add {ys = ys} {s} {b} {i} g k n) = let h = grown_long g in simp length-append (omega arith)

pub grown_same : {src : Source} {w : Option ℕ} {j : ℕ} {xs ys : List Link} → Grown src w j xs ys → length ys ≡ length xs → ys ≡ xs
grown_same same e = refl
grown_same {j = j} (add {ys = ys} {s} {b} {i} g m n) e =
    let h = grown_long g in
    let l = length_push ys (lnk s j b i) in
    absurd (omega arith)

pub grown_front : {src : Source} {w : Option ℕ} {j : ℕ} {xs ys : List Link} (n : ℕ) → n ≤ length xs → Grown src w j xs ys → take n ys ≡ take n xs
grown_front n le same = refl
grown_front {j = j} n le (add {ys = ys} {s} {b} {i} g m k) =
    let h = grown_long g in
    take-append-le n ys (lnk s j b i ∷ []) (omega arith) ∙ grown_front n le g

-- Links of other places are older.
pub grown_old : {src : Source} {w : Option ℕ} {j s p b i : ℕ} {xs ys : List Link} → Grown src w j xs ys → (p ≡ j → ⊥) → Has ys s p b i → Has xs s p b i
grown_old same ne h = h
grown_old {j = j} {s} {p} {b} {i} (add {ys = ys} {s = q} {b = c} {i = k} g m n) ne h =
    ⊎_elim
    (λ o. grown_old g ne o)
    (λ (e : lnk s p b i ≡ lnk q j c k). absurd (ne (ap (λ (l : Link). l.place) e)))
    (mem_split ys (lnk q j c k) h)

pub live_old : {src : Source} {w : Option ℕ} {p b i : ℕ} {xs ys : List Link} → Grown src w p xs ys → (i ≡ p → ⊥) → LiveOf src (Has ys) b i → LiveOf src (Has xs) b i
live_old g ne (inl e) = inl e
live_old g ne (inr x) = inr (x.0, x.1, grown_old g ne x.2)

-- Reductions need no word.
pub grown_lift : {src : Source} {j : ℕ} {xs ys : List Link} (w : Option ℕ) → Grown src None j xs ys → Grown src w j xs ys
grown_lift w same = same
grown_lift w (add g m n) = add (grown_lift w g) (lift m) n
  where
    lift : {src : Source} {j s b i : ℕ} {xs : List Link} → Makes src None j xs s b i → Makes src w j xs s b i
    lift (shifts x e lt ji l k) = let z : ◌≡◌ {A = ℕ} 0 1 = cc in absurd (omega arith)
    lift (reduces r t h l c d k) = reduces r t h l c d k

-- What is made of some links is made of more.
pub makes_more : {src : Source} {w : Option ℕ} {j s b i : ℕ} {xs ys : List Link} → ((s j b i : ℕ) → Has xs s j b i → Has ys s j b i)
    → Makes src w j xs s b i → Makes src w j ys s b i
makes_more {src} f (shifts x e lt ji l k) = shifts x e lt ji (live_more src f l) k
makes_more {src} f (reduces r t h l c d k) = reduces r t h (live_more src f l) (chain_more f c) d k

pub overfull_more : {src : Source} {w : Option ℕ} {j limit : ℕ} {xs ys : List Link} → Grown src w j xs ys → Overfull src w j ys limit → Overfull src w j xs limit
overfull_more g o = record { made = o.made; grown = grown_trans g o.grown; long = o.long }

pub overfull_lift : {src : Source} {j limit : ℕ} {xs : List Link} (w : Option ℕ) → Overfull src None j xs limit → Overfull src w j xs limit
overfull_lift w o = record { made = o.made; grown = grown_lift w o.grown; long = o.long }
