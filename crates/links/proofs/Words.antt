-- What the calls on links leave and answer where the links that are held are exactly those of some words.
use Rattle.std.proofs.Common.{◌≡◌, ℕ, suc, min, ◌↔◌, Bool, List, ◌++◌, length, take, drop, Result, sym, refl, subst, inl, inr, arith, length-take}
use Rattle.std.proofs.lemmas.List.{length_push, take-append-drop}
use Rattle.parsing.specs.Items.{Source}
use Rattle.parsing.specs.Links.{Linked, Live, bottom, linked, LiveOf}
use Rattle.parsing.proofs.Soundness.{linked_place}
use Rattle.parsing.proofs.Prefix.{linked_prefix}
use Rattle.parsing.proofs.Least.{live_of}
use Rattle.link_growth.specs.declared.Link.{Link}
use Rattle.link_growth.specs.Entries.{lnk, Mem, Has}
use Rattle.link_growth.specs.Counting.{Exact, Counts, Steps}
use Rattle.link_growth.specs.Closures.{StepsFrom}
use Rattle.link_growth.proofs.Grows.{live_more}
use Rattle.link_growth.proofs.Exacts.{fits, exact_start, exceeds_start, exact_next, exceeds_next}
use Rattle.links.specs.declared.links.Links.{Links}
use Rattle.links.specs.declared.fault.TooManyLinks.{TooManyLinks as Many}
use Rattle.links.specs.declared.fault.TakeFault.{TakeFault}
use Rattle.links.specs.Placing.{up_to, at_place}
use Rattle.links.specs.Holding
use Rattle.links.specs.Holding.{links_of, Blank, Holds, Same, Back, Opened, opened_new, refused_new, opened_again, refused_again, Took, Tells}
use Rattle.links.specs.Words.{Ready, blank, holding, OpenedWords, TookWords, full, foreign, stuck, crowded, taken, Wordwise}
use Rattle.links.proofs.Sieves.{at_place_members, up_to_mem, mem_up_to, up_to_once}

-- The links of the first words are those at the first places.
pub exact_front : {src : Source} {ws : List ℕ} {xs : List Link} (k : ℕ) → Exact src ws xs → Exact src (take k ws) (up_to k xs)
exact_front {src} {ws} {xs} k e = record {
  once = up_to_once k e.once;
  sound = λ s j b i m.
      let (has, low) = up_to_mem k xs m in
      let l = e.sound s j b i has in
      let p = linked_place l in
      (linked_prefix src (take k ws) (drop k ws) s j b i (omega (arith, size))).0 (subst (λ v. Linked src v s j b i) (sym split) l);
  whole = λ s j b i l.
      let p = linked_place l in
      mem_up_to k (e.whole s j b i (subst (λ v. Linked src v s j b i) split ((linked_prefix src (take k ws) (drop k ws) s j b i p).1 l))) (omega (arith, size));
}
  where
    size : length (take k ws) ≡ min k (length ws)
    size = length-take k ws

    split : take k ws ++ drop k ws ≡ ws
    split = take-append-drop k ws

pub back_words : {src : Source} {ws : List ℕ} {k : ℕ} {l m : Links} → Holds src ws l → Back k l m → Holds src (take k ws) m
back_words {src} {ws} {k} {l} {m} h b =
    let size = length-take k ws in
    let p = h.place in
    let q = b.place in
    record { place = omega arith; exact = subst (λ xs. Exact src (take k ws) xs) (sym b.links) (exact_front k h.exact) }

pub opened_words : {src : Source} {limit : ℕ} {l m : Links} {r : Result (Unit {0}) Many} → Ready src l → Opened src limit l r m → OpenedWords src limit l r m
opened_words ready (opened_new b c le p) = let e = exact_start c in (record { place = p; exact = e }, fits e le)
opened_words ready (refused_new b o s) = (exceeds_start o, s)
opened_words (blank b) (opened_again some c le) = absurd (some b)
opened_words (holding ws h) (opened_again some c le) = let k = back_words h c in (k, fits k.exact le)
opened_words (blank b) (refused_again some lt s) = absurd (some b)
opened_words {l = l} (holding ws h) (refused_again some lt s) =
    let e = exact_front 0 h.exact in
    (record { some = up_to 0 (links_of l); once = e.once; sound = e.sound; long = lt }, s)

-- What is live at the end of the words.
module _ {src : Source} {ws : List ℕ} {l : Links} (h : Holds src ws l) where
  live_held : {b p : ℕ} → Live src ws b p → LiveOf src (Has (links_of l)) b p
  live_held bottom = inl (refl, refl)
  live_held (linked {s = s} {j = j} {b = c} {i = i} k) = inr (c, i, h.exact.whole s j c i k)

  steps_words : {x : ℕ} → StepsFrom src (links_of l) (Holding.place_of l) x → Steps src ws x
  steps_words (b, live, next) = (b, subst (λ p. Live src ws b p) h.place (live_of (live_more src h.exact.sound live)), next)

  words_steps : {x : ℕ} → Steps src ws x → StepsFrom src (links_of l) (Holding.place_of l) x
  words_steps (b, live, next) = (b, subst (λ p. LiveOf src (Has (links_of l)) b p) (sym h.place) (live_held live), next)

  next_is : suc (Holding.place_of l) ≡ suc (length ws)
  next_is = let p = h.place in omega arith

  pub took_words : {x limit : ℕ} {m : Links} {r : Result (Unit {0}) TakeFault} → Took src x limit l r m → TookWords src ws x limit l r m
  took_words (Holding.full n le s) = full n (let p = h.place in omega arith) s
  took_words (Holding.foreign n lt le s) = foreign n (let p = h.place in omega arith) le s
  took_words (Holding.stuck n lt t none s) = stuck n (let p = h.place in omega arith) t (λ k. none (words_steps k)) s
  took_words (Holding.crowded n lt t k o s) = crowded n (let p = h.place in omega arith) t (steps_words k) (exceeds_next h.exact next_is o) s
  took_words {x = x} (Holding.taken lt t k c le p) =
      let e = exact_next h.exact next_is c in
      let q = h.place in
      let n = length_push ws x in
      taken (omega arith) t (steps_words k) (fits e le) (record { place = omega arith; exact = e })

  -- And what is answered of them.
  pub count_words : Counts src ws (length (links_of l))
  count_words = record { all = links_of l; exact = h.exact; size = refl }

  pub has_words : {b : Bool} (k : Link) → Tells b (Mem k (links_of l)) → Tells b (Linked src ws k.state k.place k.below k.below_place)
  has_words k t = record {
    told = λ e. h.exact.sound k.state k.place k.below k.below_place (t.told e);
    so = λ d. t.so (h.exact.whole k.state k.place k.below k.below_place d);
  }

  pub linked_words : (s p b i : ℕ) → Has (links_of l) s p b i ↔ Linked src ws s p b i
  linked_words s p b i = (h.exact.sound s p b i, h.exact.whole s p b i)

  pub place_words : (s p b i : ℕ) → Mem (lnk s p b i) (at_place p (links_of l)) ↔ Linked src ws s p b i
  place_words s p b i = (
    (λ m. h.exact.sound s p b i ((at_place_members (links_of l) p (lnk s p b i)).0 m).0),
    (λ k. (at_place_members (links_of l) p (lnk s p b i)).1 (h.exact.whole s p b i k, refl)),
  )

pub wordwise : Wordwise
wordwise src l = record {
  opened = λ n r m ready o. opened_words ready o;
  took = λ ws x n r m h t. took_words h t;
  back = λ ws k m h b. back_words h b;
  counts = λ ws h. count_words h;
  has = λ ws s p b i h. linked_words h s p b i;
  placed = λ ws s p b i h. place_words h s p b i;
}
