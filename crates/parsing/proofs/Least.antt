-- The closure and the links are least: whatever is closed under their rules holds them.
use Rattle.std.proofs.Common.{ℕ, suc, ◌<◌, ◌≤◌, List, refl, inl, inr, arith}
use Rattle.parsing.specs.Grammar.{Grammar, rule_count, lhs}
use Rattle.parsing.specs.Items.{Next, Closure, kernel, predict, Source}
use Rattle.parsing.specs.Links.{Linked, shift, reduce, Live, bottom, linked, Chain, stay, down}
use Rattle.parsing.specs.Links.{ChainOf, stay_of, down_of, LiveOf, Saturated}
use Rattle.parsing.proofs.Soundness.{linked_forward, chain_forward}

-- A relation on items that holds I and predicts each rule whose left symbol comes next holds the closure of I.
pub closure_least : {g : Grammar} {I : ℕ → ℕ → Type 0} (P : ℕ → ℕ → Type 0) → ((r d : ℕ) → I r d → P r d)
    → ((r d q : ℕ) → P r d → q < rule_count g → Next g r d (lhs g q) → P q 0) → {r d : ℕ} → Closure g I r d → P r d
closure_least P k p (kernel {r = r} {d = d} i) = k r d i
closure_least P k p (predict {r = r} {d = d} q c h n) = p r d q (closure_least P k p c) h n

module _ {src : Source} {ws : List ℕ} {K : ℕ → ℕ → ℕ → ℕ → Type 0} (n : ℕ) (sat : (j : ℕ) → j ≤ n → Saturated src ws K j) where
  mutual
    -- A relation that is saturated up to place n holds each link up to n.
    pub linked_least : {s j b i : ℕ} → Linked src ws s j b i → j ≤ n → K s j b i
    linked_least (shift {s = s} {b = b} {j = j} l h t e) p =
        (sat (suc j) p).shifts s b j refl (live_least l (omega arith)) h t e
    linked_least (reduce {s = s} {j = j} {b = b} {i = i} r t l h c d e) p =
        let f = chain_forward c in
        (sat j p).reduces s b i r t (live_least l (omega arith)) h (chain_least c p) d e

    pub live_least : {b i : ℕ} → Live src ws b i → i ≤ n → LiveOf src K b i
    live_least bottom p = inl (refl, refl)
    live_least (linked {b = b} {i = i} k) p = inr (b, i, linked_least k p)

    pub chain_least : {m t j b i : ℕ} → Chain src ws m t j b i → j ≤ n → ChainOf K m t j b i
    chain_least stay p = stay_of
    chain_least (down k c) p =
        let f = linked_forward k in
        down_of (linked_least k p) (chain_least c (omega arith))

-- What is live over the links is live.
pub live_of : {src : Source} {ws : List ℕ} {b i : ℕ} → LiveOf src (Linked src ws) b i → Live src ws b i
live_of (inl x) = rw (x.0, x.1) bottom
live_of (inr x) = linked x.2

-- And their chains are chains.
pub chain_of : {src : Source} {ws : List ℕ} {m t j b i : ℕ} → ChainOf (Linked src ws) m t j b i → Chain src ws m t j b i
chain_of stay_of = stay
chain_of (down_of k c) = down k (chain_of c)

-- So the links themselves are saturated.
pub linked_saturated : (src : Source) (ws : List ℕ) (j : ℕ) → Saturated src ws (Linked src ws) j
linked_saturated src ws j = record {
  shifts = λ s b i m l h t e. rw m (shift (live_of l) h t e);
  reduces = λ s b i r t l h c d e. reduce r t (live_of l) h (chain_of c) d e;
}
