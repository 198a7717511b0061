-- Links up to a place look only at the words before it: they grow place by place, and cutting words back cuts links back.
use Rattle.std.proofs.Common.{ℕ, ◌≤◌, ◌↔◌, List, ◌++◌, length, arith}
use Rattle.parsing.specs.Items.{Source}
use Rattle.parsing.specs.Links.{Linked, shift, reduce, Live, bottom, linked, Chain, stay, down}
use Rattle.parsing.proofs.Derivations.{Agree, agree_append, agree_cut}
use Rattle.parsing.proofs.Soundness.{linked_forward, chain_forward}

module _ {src : Source} {ws zs : List ℕ} where
  mutual
    -- What is linked, live or chained up to the place j is so over all words that agree up to j.
    pub linked_local : {s j b i : ℕ} → Linked src ws s j b i → Agree j ws zs → Linked src zs s j b i
    linked_local (shift {j = j} l h t e) a =
        let (x, y) = a j (omega arith) h in
        shift (live_local l (λ k p. a k (omega arith))) x (rw (← y) t) (rw (← y) e)
    linked_local (reduce r t l h c d e) a =
        let f = chain_forward c in
        reduce r t (live_local l (λ k p. a k (omega arith))) h (chain_local c a) d e

    pub live_local : {b i : ℕ} → Live src ws b i → Agree i ws zs → Live src zs b i
    live_local bottom a = bottom
    live_local (linked k) a = linked (linked_local k a)

    pub chain_local : {m t j b i : ℕ} → Chain src ws m t j b i → Agree j ws zs → Chain src zs m t j b i
    chain_local stay a = stay
    chain_local (down k c) a =
        let f = linked_forward k in
        down (linked_local k a) (chain_local c (λ n p. a n (omega arith)))

-- More words change no link up to a place of the words before them.
pub linked_prefix : (src : Source) (ws vs : List ℕ) (s j b i : ℕ) → j ≤ length ws
    → Linked src (ws ++ vs) s j b i ↔ Linked src ws s j b i
linked_prefix src ws vs s j b i h =
    ((λ k. linked_local k (agree_cut j ws vs h)), λ k. linked_local k (agree_append j ws vs))

-- Nor a live state.
pub live_prefix : (src : Source) (ws vs : List ℕ) (b i : ℕ) → i ≤ length ws
    → Live src (ws ++ vs) b i ↔ Live src ws b i
live_prefix src ws vs b i h =
    ((λ l. live_local l (agree_cut i ws vs h)), λ l. live_local l (agree_append i ws vs))
