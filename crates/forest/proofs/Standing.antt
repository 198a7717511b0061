-- Where a node would stand in a list in order, told by the order itself.
use Rattle.std.proofs.Common.{◌≡◌, ℕ, ◌<◌, ◌≤◌, List, length, Less, Equal, Greater, sym, ap, ◌∙◌, subst, inl, inr, arith}
use Rattle.std.specs.Ordering.{ordering_reverse}
use Rattle.std.proofs.lemmas.Bool.{cases_lt}
use Rattle.register.specs.Lists.{Climbs}
use Rattle.records.specs.Orders.{node_cmp, by_node}
use Rattle.records.specs.declared.node.Node.{Node}
use Rattle.records.proofs.Faith.{node_faithful}
use Rattle.forest.specs.Finding.{node_at, node_of, Before, LowerBound}
use Rattle.forest.proofs.Ordering.{Below, node_less}

pub node_greater : (x y : Node) → node_cmp x y ≡ Greater → Below y x
node_greater x y h = node_less y x (by_node.antisymm y x ∙ ap ordering_reverse h)

before_target : (z : Node) (i j : ℕ) → Below z (node_at 0 i j) → Before z i j
before_target z i j (inl l) = inl l
before_target z i j (inr (e, inl l)) = inr (e, l)
before_target z i j (inr (e, inr (f, l))) = absurd (omega arith)

not_before : (z : Node) (i j : ℕ) → Below (node_at 0 i j) z → Before z i j → ⊥
not_before z i j (inl l) (inl k) = omega arith
not_before z i j (inl l) (inr (e, k)) = omega arith
not_before z i j (inr (e, inl l)) (inl k) = omega arith
not_before z i j (inr (e, inl l)) (inr (f, k)) = omega arith
not_before z i j (inr (e, inr (f, l))) (inl k) = omega arith
not_before z i j (inr (e, inr (f, l))) (inr (d, k)) = omega arith

module _ (us : List Node) (i j k : ℕ) where
  -- The place where the first node from i to j would stand.
  pub bound_missing : k ≤ length us
      → (Climbs node_cmp us → ((t : ℕ) → t < k → node_cmp (node_of us t) (node_at 0 i j) ≡ Less)
      × ((t : ℕ) → k ≤ t → t < length us → node_cmp (node_of us t) (node_at 0 i j) ≡ Greater))
      → LowerBound us i j k
  bound_missing l f = record {
    within = l;
    below = λ up t h. before_target (node_of us t) i j (node_less (node_of us t) (node_at 0 i j) ((f up).0 t h));
    above = λ up t h m. not_before (node_of us t) i j (node_greater (node_of us t) (node_at 0 i j) ((f up).1 t h m));
  }

  pub bound_found : k < length us → node_cmp (node_of us k) (node_at 0 i j) ≡ Equal → LowerBound us i j k
  bound_found l e =
      let s : node_of us k ≡ node_at 0 i j = node_faithful (node_of us k) (node_at 0 i j) e in
      record {
        within = omega arith;
        below = λ up t h. before_target (node_of us t) i j
            (subst (λ (y : Node). Below (node_of us t) y) s (node_less (node_of us t) (node_of us k) (up t k (node_at 0 0 0) h l)));
        above = λ up t h m. elim (cases_lt k t) [
          | inl n ↦ not_before (node_of us t) i j (subst (λ (y : Node). Below y (node_of us t)) s (node_less (node_of us k) (node_of us t) (up k t (node_at 0 0 0) n m)))
          | inr n ↦ λ b.
              let q : k ≡ t = omega arith in
              let w : Before (node_at 0 i j) i j = subst (λ (y : Node). Before y i j) (ap (node_of us) (sym q) ∙ s) b in
              elim w [ inl x ↦ omega arith | inr x ↦ let y = x.1 in omega arith ]
        ];
      }
