-- A list that has grown by the rules, and is closed under them, is the closure.
use Rattle.std.proofs.Common.{◌≡◌, ℕ, suc, ◌≤◌, List, length, Some, Option, sym, refl, ◌∙◌, subst, inl, inr, ⊎_elim, arith, take_all}
use Rattle.parsing.specs.Items.{Source}
use Rattle.parsing.specs.Links.{ChainOf, stay_of, down_of, LiveOf}
use Rattle.link_growth.specs.declared.Link.{Link}
use Rattle.link_growth.specs.Entries.{lnk, Has, Once}
use Rattle.link_growth.specs.Growth.{Makes, shifts, reduces, Grown, same, add, Overfull, Shut, Stepped}
use Rattle.link_growth.specs.Closures.{Made, given, by_word, by_rule, MadeLive, at_first, at_link, MadeChain, no_link, one_more, Closure, Outgrows, OneClosure}
use Rattle.link_growth.proofs.Members.{mem_split, once_push}
use Rattle.link_growth.proofs.Grows.{chain_more, live_more, live_old, grown_has, grown_front}
use Rattle.link_growth.proofs.Sizes.{no_longer}

-- What is live, and what a chain leads to, over links that are made.
pub live_made : {src : Source} {w : Option ℕ} {j b i : ℕ} {xs : List Link} → LiveOf src (Made src w j xs) b i → MadeLive src w j xs b i
live_made (inl x) = rw (x.0, x.1) at_first
live_made (inr x) = at_link x.2

pub chain_made : {src : Source} {w : Option ℕ} {j : ℕ} {xs : List Link} {m t p b i : ℕ} → ChainOf (Made src w j xs) m t p b i → MadeChain src w j xs m t p b i
chain_made stay_of = no_link
chain_made (down_of k c) = one_more k (chain_made c)

-- Whatever grows is made.
makes_made : {src : Source} {w : Option ℕ} {j s b i : ℕ} {xs ys : List Link} → ((s p b i : ℕ) → Has ys s p b i → Made src w j xs s p b i)
    → Makes src w j ys s b i → Made src w j xs s j b i
makes_made {src} f (shifts x e lt ji l n) = by_word x e lt ji (live_made (live_more src f l)) n
makes_made {src} f (reduces r t h l c d n) = by_rule r t h (live_made (live_more src f l)) (chain_made (chain_more f c)) d n

pub grown_made : {src : Source} {w : Option ℕ} {j : ℕ} {xs ys : List Link} → Grown src w j xs ys → (s p b i : ℕ) → Has ys s p b i → Made src w j xs s p b i
grown_made same s p b i h = given h
grown_made {src} {w} {j} {xs} (add {ys = ys} {s = q} {b = c} {i = k} g m n) s p b i h =
    ⊎_elim
    (grown_made g s p b i)
    (λ (e : lnk s p b i ≡ lnk q j c k).
    subst (λ (l : Link). Made src w j xs l.state l.place l.below l.below_place) (sym e) (makes_made (grown_made g) m))
    (mem_split ys (lnk q j c k) h)

pub grown_once : {src : Source} {w : Option ℕ} {j : ℕ} {xs ys : List Link} → Once xs → Grown src w j xs ys → Once ys
grown_once o same = o
grown_once {j = j} o (add {ys = ys} {s} {b} {i} g m n) = once_push ys (lnk s j b i) (grown_once o g) n

-- Whatever is made is in a list that has grown and is closed.
module _ {src : Source} {w : Option ℕ} {j : ℕ} {xs ys : List Link} (g : Grown src w j xs ys)
    (stepped : (x i : ℕ) → w ≡ Some x → j ≡ suc i → Stepped src x j i xs ys) (shut : Shut src j ys) where
  mutual
    pub made_has : {s p b i : ℕ} → Made src w j xs s p b i → Has ys s p b i
    made_has (given {s = s} {p = p} {b = b} {i = i} h) = grown_has g s p b i h
    made_has (by_word {s = s} {b = b} {i = i} x e lt ji l n) = stepped x i e ji s b (live_old g (λ bad. omega arith) (made_live l)) n
    made_has (by_rule {s = s} {b = b} {i = i} r t lt l c d n) = shut r lt t s b i d (made_live l) (made_leads c) n

    made_live : {b i : ℕ} → MadeLive src w j xs b i → LiveOf src (Has ys) b i
    made_live at_first = inl (refl, refl)
    made_live (at_link {b = b} {i = i} m) = inr (b, i, made_has m)

    made_leads : {m t p b i : ℕ} → MadeChain src w j xs m t p b i → ChainOf (Has ys) m t p b i
    made_leads no_link = stay_of
    made_leads (one_more m c) = down_of (made_has m) (made_leads c)

  pub closed : Once xs → Closure src w j xs ys
  closed o = record {
    begins = grown_front (length xs) (omega arith) g ∙ take_all (length xs) xs (omega arith);
    once = grown_once o g;
    sound = grown_made g;
    whole = λ s p b i m. made_has m;
  }

pub overfull_outgrows : {src : Source} {w : Option ℕ} {j n : ℕ} {xs : List Link} → Once xs → Overfull src w j xs n → Outgrows src w j xs n
overfull_outgrows o f = record { some = f.made; once = grown_once o f.grown; sound = grown_made f.grown; long = f.long }

-- Closures of the same links.
closure_size : {src : Source} {w : Option ℕ} {j : ℕ} {xs ys zs : List Link} → Once zs → ((s p b i : ℕ) → Has zs s p b i → Made src w j xs s p b i)
    → Closure src w j xs ys → length zs ≤ length ys
closure_size {ys = ys} {zs = zs} o f c =
    no_longer zs ys o (λ (l : Link) m. c.whole l.state l.place l.below l.below_place (f l.state l.place l.below l.below_place m))

pub one_closure : OneClosure
one_closure src w j xs ys c = (
  (λ zs d. (
    (λ s p b i. ((λ h. d.whole s p b i (c.sound s p b i h)), (λ h. c.whole s p b i (d.sound s p b i h)))),
    (let m = closure_size c.once c.sound d in let n = closure_size d.once d.sound c in omega arith),
  )),
  (λ n. (
    (λ o. let m = closure_size o.once o.sound c in let h = o.long in omega arith),
    (λ lt. record { some = ys; once = c.once; sound = c.sound; long = lt }),
  )),
)
