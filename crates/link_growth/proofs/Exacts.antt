-- The closure of the links of some words, at the place where one word more ends, has the links of all these words.
use Rattle.std.proofs.Common.{◌≡◌, ℕ, suc, ◌<◌, ◌≤◌, List, [], ◌∷◌, ◌++◌, length, get_or, Some, None, Option, sym, refl, ap, ◌∙◌, subst, inr, ⊎_elim, arith}
use Rattle.std.proofs.lemmas.Bool.{cases_lt}
use Rattle.std.proofs.lemmas.List.{length_push, get_or_push}
use Rattle.parsing.specs.Items.{Source}
use Rattle.parsing.specs.Links.{Linked, shift, reduce, Live, bottom, linked, Chain, stay, down, ChainOf, stay_of, down_of, LiveOf, Saturated}
use Rattle.parsing.proofs.Soundness.{below, linked_place}
use Rattle.parsing.proofs.Least.{linked_least, linked_saturated}
use Rattle.parsing.proofs.Prefix.{linked_prefix}
use Rattle.link_growth.specs.declared.Link.{Link}
use Rattle.link_growth.specs.Entries.{Has, Once}
use Rattle.link_growth.specs.Counting.{Exact, Exceeds, Counting}
use Rattle.link_growth.specs.Closures.{Made, given, by_word, by_rule, MadeLive, at_first, at_link, MadeChain, no_link, one_more, Closure, Outgrows}
use Rattle.link_growth.proofs.Grows.{chain_more, live_more}
use Rattle.link_growth.proofs.Closing.{live_made, chain_made}
use Rattle.link_growth.proofs.Sizes.{no_longer}

abbrev pub True : Source → List ℕ → List Link → Type 0
True src ws xs = (s j b i : ℕ) → Has xs s j b i → Linked src ws s j b i

chain_live : {src : Source} {ws : List ℕ} {m t j b i : ℕ} → Live src ws t j → Chain src ws m t j b i → Live src ws b i
chain_live l stay = l
chain_live l (down k c) = chain_live (below k) c

live_top : (src : Source) {K : ℕ → ℕ → ℕ → ℕ → Type 0} {m t j b i : ℕ} → LiveOf src K b i → ChainOf K m t j b i → LiveOf src K t j
live_top src l stay_of = l
live_top src l (down_of {s = s} {k = k} h c) = inr (s, k, h)

-- Where xs are links of the words ws, and the word w ends at j there.
module _ {src : Source} {w : Option ℕ} {j : ℕ} {xs : List Link} (ws : List ℕ)
    (word : (x i : ℕ) → w ≡ Some x → j ≡ suc i → (i < length ws) × (get_or ws i 0 ≡ x)) (ok : True src ws xs) where
  mutual
    made_link : {s p b i : ℕ} → Made src w j xs s p b i → Linked src ws s p b i
    made_link (given {s = s} {p = p} {b = b} {i = i} h) = ok s p b i h
    made_link (by_word {s = s} {b = b} {i = i} x e lt ji l n) =
        let (h, is) = word x i e ji in
        subst (λ p. Linked src ws s p b i) (sym ji)
        (shift (made_alive l) h (subst (λ v. v < src.grammar.terminals) (sym is) lt) (ap (λ v. src.next b v) is ∙ n))
    made_link (by_rule r t lt l c d n) = let k = made_down c in reduce r t (chain_live (made_alive l) k) lt k d n

    made_alive : {b i : ℕ} → MadeLive src w j xs b i → Live src ws b i
    made_alive at_first = bottom
    made_alive (at_link m) = linked (made_link m)

    made_down : {m t p b i : ℕ} → MadeChain src w j xs m t p b i → Chain src ws m t p b i
    made_down no_link = stay
    made_down (one_more m c) = down (made_link m) (made_down c)

  pub made_linked : (s p b i : ℕ) → Made src w j xs s p b i → Linked src ws s p b i
  made_linked s p b i m = made_link m

  -- And xs are all links below j, the last place.
  pub linked_made : length ws ≡ j → ((s p b i : ℕ) → p < j → Linked src ws s p b i → Has xs s p b i)
      → ((i : ℕ) → j ≡ suc i → w ≡ Some (get_or ws i 0)) → (s p b i : ℕ) → Linked src ws s p b i → Made src w j xs s p b i
  linked_made long old last s p b i l = linked_least {K = Made src w j xs} j sat l (let h = linked_place l in omega arith)
    where
      here : (k : ℕ) → k ≡ j → Saturated src ws (Made src w j xs) k
      here k e = subst (λ v. Saturated src ws (Made src w j xs) v) (sym e) (record {
        shifts = λ s b i is l lt small n. by_word (get_or ws i 0) (last i is) small is (live_made l) n;
        reduces = λ s b i r t l lt c d n. by_rule r t lt (live_made (live_top src l c)) (chain_made c) d n;
      })

      under : (k : ℕ) → k < j → Saturated src ws (Made src w j xs) k
      under k lt = record {
        shifts = λ s b i is l h small n. given (old s k b i lt ((linked_saturated src ws k).shifts s b i is (live_more src made_linked l) h small n));
        reduces = λ s b i r t l h c d n.
            given (old s k b i lt ((linked_saturated src ws k).reduces s b i r t (live_more src made_linked l) h (chain_more made_linked c) d n));
      }

      sat : (k : ℕ) → k ≤ j → Saturated src ws (Made src w j xs) k
      sat k le = ⊎_elim (λ (lt : k < j). under k lt) (λ (ge : j ≤ k). here k (omega arith)) (cases_lt k j)

  pub outgrows_exceeds : {n : ℕ} → Outgrows src w j xs n → Exceeds src ws n
  outgrows_exceeds o = record { some = o.some; once = o.once; sound = (λ s p b i h. made_linked s p b i (o.sound s p b i h)); long = o.long }

no_more : {src : Source} {ws : List ℕ} {xs ys : List Link} → Once xs → True src ws xs → Exact src ws ys → length xs ≤ length ys
no_more {xs = xs} {ys = ys} o ok e =
    no_longer xs ys o (λ (l : Link) m. e.whole l.state l.place l.below l.below_place (ok l.state l.place l.below l.below_place m))

pub fits : {src : Source} {ws : List ℕ} {limit : ℕ} {ys : List Link} → Exact src ws ys → length ys ≤ limit → Exceeds src ws limit → ⊥
fits e le t =
    let n = no_more t.once t.sound e in
    let h = t.long in
    omega arith

-- No words.
no_word : {x i j : ℕ} (ws : List ℕ) → None ≡ Some x → j ≡ suc i → (i < length ws) × (get_or ws i 0 ≡ x)
no_word ws e f = let z : ◌≡◌ {A = ℕ} 0 1 = cc in absurd (omega arith)

none_true : {src : Source} → True src [] []
none_true s j b i m = elim m [ ]

pub exact_start : {src : Source} {ys : List Link} → Closure src None 0 [] ys → Exact src [] ys
exact_start c = record {
  once = c.once;
  sound = λ s p b i h. made_linked [] (λ x i e f. no_word [] e f) none_true s p b i (c.sound s p b i h);
  whole = λ s p b i l. c.whole s p b i (linked_made [] (λ x i e f. no_word [] e f) none_true refl (λ s p b i lt. absurd (omega arith)) (λ i e. absurd (omega arith)) s p b i l);
}

pub exceeds_start : {src : Source} {n : ℕ} → Outgrows src None 0 [] n → Exceeds src [] n
exceeds_start o = outgrows_exceeds [] (λ x i e f. no_word [] e f) none_true o

-- One word more.
still : {src : Source} {ws : List ℕ} (vs : List ℕ) {xs : List Link} → Exact src ws xs → True src (ws ++ vs) xs
still {src} {ws} vs e s p b i h = let l = e.sound s p b i h in (linked_prefix src ws vs s p b i (linked_place l)).1 l

module _ {src : Source} {ws : List ℕ} {x j : ℕ} {xs : List Link} (e : Exact src ws xs) (is : j ≡ suc (length ws)) where
  last_word : (y i : ℕ) → Some x ≡ Some y → j ≡ suc i → (i < length (ws ++ x ∷ [])) × (get_or (ws ++ x ∷ []) i 0 ≡ y)
  last_word y i same_word at_i =
      let n = length_push ws x in
      let here : length ws ≡ i = omega arith in
      let w : x ≡ y = cc in
      (omega arith, get_or_push ws x 0 i here ∙ w)

  pub exact_next : {ys : List Link} → Closure src (Some x) j xs ys → Exact src (ws ++ x ∷ []) ys
  exact_next c = record {
    once = c.once;
    sound = λ s p b i h. made_linked (ws ++ x ∷ []) last_word (still (x ∷ []) e) s p b i (c.sound s p b i h);
    whole = λ s p b i l. c.whole s p b i (linked_made (ws ++ x ∷ []) last_word (still (x ∷ []) e) (length_push ws x ∙ (omega arith))
        (λ s p b i lt k. e.whole s p b i ((linked_prefix src ws (x ∷ []) s p b i (omega arith)).0 k))
        (λ i at_i. let here : length ws ≡ i = omega arith in ap (λ v. Some v) (sym (get_or_push ws x 0 i here))) s p b i l);
  }

  pub exceeds_next : {n : ℕ} → Outgrows src (Some x) j xs n → Exceeds src (ws ++ x ∷ []) n
  exceeds_next o = outgrows_exceeds (ws ++ x ∷ []) last_word (still (x ∷ []) e) o

pub counting : Counting
counting src ws = (
  (λ m n c d.
      let h = no_more c.exact.once c.exact.sound d.exact in
      let k = no_more d.exact.once d.exact.sound c.exact in
      let p = c.size in
      let q = d.size in
      omega arith),
  (λ m n c x. let h = no_more x.once x.sound c.exact in let p = c.size in let q = x.long in omega arith),
  (λ m n c lt. record { some = c.all; once = c.exact.once; sound = c.exact.sound; long = (let p = c.size in omega arith) }),
)
