-- A list of links that is grounded and saturated holds exactly the links.
use Rattle.std.proofs.Common.{◌≡◌, ℕ, zero, suc, Bool, true, false, ◌&&◌, ◌||◌, eqb, ltb, List, [], ◌∷◌, length, get_or, Some, None, Option, refl, ap, subst, subst₂, inl, inr, arith}
use Rattle.std.proofs.lemmas.Bool.{and_parts, and_from, or_cases, eqb-true, eq-eqb, ltb-true, lt-ltb, false≢true}
use Rattle.parsing.specs.Grammar.{rule_count, lhs, rhs}
use Rattle.parsing.specs.Items.{Source}
use Rattle.parsing.specs.Links.{Linked, shift, reduce, Live, bottom, linked, Chain, stay, down}
use Rattle.parsing.specs.Links.{ChainOf, stay_of, down_of, LiveOf, Saturated}
use Rattle.parsing.proofs.Least.{linked_least}
use Rattle.link_growth.specs.declared.Link.{Link}
use Rattle.link_growth.specs.Entries.{lnk, Mem, head, tail, Has}
use Rattle.link_growth.specs.Counting.{Exact}
use Rattle.known.proofs.Tests.{implies, implied, all_below, at_below, some_below, found_below, all_of, at_member, some_of, found_member}
use Rattle.known.proofs.Members.{member?, is_member, once?, is_once}

abbrev pub link_code : Link → List ℕ
link_code k = k.state ∷ k.place ∷ k.below ∷ k.below_place ∷ []

link_told : (x y : Link) → link_code x ≡ link_code y → x ≡ y
link_told x y e =
    let a : x.state ≡ y.state = cc in
    let b : x.place ≡ y.place = cc in
    let c : x.below ≡ y.below = cc in
    let d : x.below_place ≡ y.below_place = cc in
    λ i. record { state = a i; place = b i; below = c i; below_place = d i }

-- The answer, if there is one, passes; or it is s.
abbrev onward : Option ℕ → (ℕ → Bool) → Bool
onward None p = true
onward (Some s) p = p s

abbrev answers : Option ℕ → ℕ → Bool
answers None s = false
answers (Some t) s = eqb t s

is_answer : (o : Option ℕ) (s : ℕ) → answers o s ≡ true → o ≡ Some s
is_answer None s e = absurd (false≢true e)
is_answer (Some t) s e = ap Some (eqb-true t s e)

two : (a b c d : ℕ) → (eqb a b && eqb c d) ≡ true → (a ≡ b) × (c ≡ d)
two a b c d e = let (p, q) = and_parts (eqb a b) (eqb c d) e in (eqb-true a b p, eqb-true c d q)

module _ (src : Source) (ws : List ℕ) where
  -- The states that are live over the links ks, and the lower ends of their chains, all pass.
  abbrev all_live : List Link → (ℕ → ℕ → Bool) → Bool
  all_live ks p = p src.first 0 && all_of (λ k. p k.state k.place) ks

  abbrev all_chains : List Link → ℕ → ℕ → ℕ → (ℕ → ℕ → Bool) → Bool
  all_chains ks zero t j p = p t j
  all_chains ks (suc m) t j p =
      all_of (λ k. implies (eqb k.state t && eqb k.place j) (all_chains ks m k.below k.below_place p)) ks

  abbrev shifts? : List Link → ℕ → ℕ → Bool
  shifts? ks b i =
      implies (ltb i (length ws) && ltb (get_or ws i 0) src.grammar.terminals)
      (onward (src.next b (get_or ws i 0)) (λ s. member? link_code (lnk s (suc i) b i) ks))

  abbrev reduces? : List Link → ℕ → ℕ → Bool
  reduces? ks t j =
      all_below (rule_count src.grammar) (λ r.
      implies (src.done t r)
      (all_chains ks (length (rhs src.grammar r)) t j (λ b i.
      onward (src.next b (lhs src.grammar r)) (λ s. member? link_code (lnk s j b i) ks))))

  abbrev pub saturated? : List Link → Bool
  saturated? ks = all_live ks (shifts? ks) && all_live ks (reduces? ks)

  module _ (ks : List Link) where
    abbrev K : ℕ → ℕ → ℕ → ℕ → Type 0
    K = Has ks

    at_live : (p : ℕ → ℕ → Bool) (b i : ℕ) → all_live ks p ≡ true → LiveOf src K b i → p b i ≡ true
    at_live p b i e (inl x) = rw (x.0, x.1) (and_parts _ _ e).0
    at_live p b i e (inr x) = at_member (λ k. p k.state k.place) (lnk b i x.0 x.1) ks (and_parts _ _ e).1 x.2

    at_chain : (p : ℕ → ℕ → Bool) {m t j b i : ℕ} → all_chains ks m t j p ≡ true → ChainOf K m t j b i → p b i ≡ true
    at_chain p e stay_of = e
    at_chain p e (down_of {m = m} {t = t} {j = j} {s = s} {k = k} l c) =
        at_chain p
        (implied _ _
        (at_member (λ x. implies (eqb x.state t && eqb x.place j) (all_chains ks m x.below x.below_place p)) (lnk t j s k) ks e l)
        (and_from (eqb t t) (eqb j j) (eq-eqb t t refl) (eq-eqb j j refl)))
        c

    upper_live : {m t j b i : ℕ} → ChainOf K m t j b i → LiveOf src K b i → LiveOf src K t j
    upper_live stay_of l = l
    upper_live (down_of {s = s} {k = k} l c) x = inr (s, k, l)

    onward_member : (o : Option ℕ) (s j b i : ℕ) → onward o (λ s. member? link_code (lnk s j b i) ks) ≡ true → o ≡ Some s → K s j b i
    onward_member o s j b i e q =
        is_member link_code link_told (lnk s j b i) ks (subst (λ x. onward x (λ s. member? link_code (lnk s j b i) ks) ≡ true) q e)

    is_saturated : saturated? ks ≡ true → (j : ℕ) → Saturated src ws K j
    is_saturated e j =
        let (p, q) = and_parts _ _ e in
        record {
          shifts = λ s b i m l h t n.
              rw m
              (onward_member (src.next b (get_or ws i 0)) s (suc i) b i
              (implied _ _ (at_live (shifts? ks) b i p l)
              (and_from _ _ (lt-ltb _ _ h) (lt-ltb _ _ t)))
              n);
          reduces = λ s b i r t l h c d n.
              onward_member (src.next b (lhs src.grammar r)) s j b i
              (at_chain (λ b i. onward (src.next b (lhs src.grammar r)) (λ s. member? link_code (lnk s j b i) ks))
              (implied _ _ (at_below (rule_count src.grammar) _ (at_live (reduces? ks) t j q (upper_live c l)) r h) d)
              c)
              n;
        }

  -- Each link of a list follows from those before it.
  abbrev live? : List Link → ℕ → ℕ → Bool
  live? ks b i = (eqb b src.first && eqb i 0) || some_of (λ k. eqb k.state b && eqb k.place i) ks

  abbrev chain? : List Link → ℕ → ℕ → ℕ → ℕ → ℕ → Bool
  chain? ks zero t j b i = eqb t b && eqb j i
  chain? ks (suc m) t j b i = some_of (λ k. (eqb k.state t && eqb k.place j) && chain? ks m k.below k.below_place b i) ks

  abbrev shifted? : Link → Bool
  shifted? k =
      (eqb k.place (suc k.below_place) && ltb k.below_place (length ws))
      && (ltb (get_or ws k.below_place 0) src.grammar.terminals && answers (src.next k.below (get_or ws k.below_place 0)) k.state)

  abbrev reduced? : List Link → Link → Bool
  reduced? ks k =
      some_below (rule_count src.grammar) (λ r.
      answers (src.next k.below (lhs src.grammar r)) k.state
      && some_below src.states (λ t. src.done t r && chain? ks (length (rhs src.grammar r)) t k.place k.below k.below_place))

  abbrev made? : List Link → Link → Bool
  made? ks k = live? ks k.below k.below_place && (shifted? k || reduced? ks k)

  abbrev pub grounded? : List Link → List Link → Bool
  grounded? known [] = true
  grounded? known (k ∷ ks) = made? known k && grounded? (k ∷ known) ks

  abbrev IsLink : Link → Type 0
  IsLink k = Linked src ws k.state k.place k.below k.below_place

  abbrev AllLinks : List Link → Type 0
  AllLinks ks = (k : Link) → Mem k ks → IsLink k

  module _ (ks : List Link) (known : AllLinks ks) where
    is_live : (b i : ℕ) → live? ks b i ≡ true → Live src ws b i
    is_live b i e =
        elim (or_cases (eqb b src.first && eqb i 0) (some_of (λ k. eqb k.state b && eqb k.place i) ks) e) [
          | inl x ↦ let (p, q) = two b src.first i 0 x in rw (p, q) bottom
          | inr x ↦
              let (k, m, y) = found_member (λ k. eqb k.state b && eqb k.place i) ks x in
              let (p, q) = two k.state b k.place i y in
              subst₂ (Live src ws) p q (linked (known k m))
        ]

    is_chain : (m t j b i : ℕ) → chain? ks m t j b i ≡ true → Chain src ws m t j b i
    is_chain zero t j b i e = let (p, q) = two t b j i e in rw (p, q) stay
    is_chain (suc m) t j b i e =
        let (k, x, y) = found_member (λ k. (eqb k.state t && eqb k.place j) && chain? ks m k.below k.below_place b i) ks e in
        let (u, v) = and_parts (eqb k.state t && eqb k.place j) (chain? ks m k.below k.below_place b i) y in
        let (p, q) = two k.state t k.place j u in
        subst₂ (λ t j. Chain src ws (suc m) t j b i) p q (down (known k x) (is_chain m k.below k.below_place b i v))

    is_made : (k : Link) → made? ks k ≡ true → IsLink k
    is_made k e =
        let (l, x) = and_parts _ _ e in
        let live = is_live k.below k.below_place l in
        elim (or_cases _ _ x) [
          | inl y ↦
              let (y0, y1) = and_parts _ _ y in
              let (a, b) = and_parts _ _ y0 in
              let (c, d) = and_parts _ _ y1 in
              rw (eqb-true k.place (suc k.below_place) a)
              (shift live (ltb-true _ _ b) (ltb-true _ _ c)
              (is_answer _ _ d))
          | inr y ↦
              let (r, h, z) = found_below (rule_count src.grammar) _ y in
              let (a, b) = and_parts _ _ z in
              let (t, _, c) = found_below src.states _ b in
              let (d, f) = and_parts _ _ c in
              reduce r t live h (is_chain (length (rhs src.grammar r)) t k.place k.below k.below_place f) d
              (is_answer _ _ a)
        ]

  more_links : (x : Link) (xs : List Link) → IsLink x → AllLinks xs → AllLinks (x ∷ xs)
  more_links x xs l f k head = l
  more_links x xs l f k (tail m) = f k m

  are_links : (known ks : List Link) → AllLinks known → grounded? known ks ≡ true → AllLinks ks
  are_links known [] f e k m = elim m [ ]
  are_links known (x ∷ xs) f e k m =
      let (a, b) = and_parts _ _ e in
      let l = is_made known f x a in
      more_links x xs l (are_links (x ∷ known) xs (more_links x known l f) b) k m

  pub links_exactly : (ks : List Link) → grounded? [] ks ≡ true → saturated? ks ≡ true → once? link_code ks ≡ true → Exact src ws ks
  links_exactly ks grounded saturated once = record {
    once = is_once link_code ks once;
    sound = λ s j b i m. are_links [] ks (λ x n. elim n [ ]) grounded (lnk s j b i) m;
    whole = λ s j b i l. linked_least j (λ k h. is_saturated ks saturated k) l (omega arith);
  }
