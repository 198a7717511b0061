-- From a gather to the forest.
use Rattle.std.proofs.Common.{◌≡◌, ℕ, ◌≤◌, ◌⊎◌, inl, inr, List, ◌++◌, length, take, sym, refl, ap, ◌∙◌, subst, arith}
use Rattle.std.proofs.Math.Seq.{take-append_seam}
use Rattle.parsing.specs.Items.{Source}
use Rattle.grammar.specs.declared.refusal.Refusal.{Refusal}
use Rattle.records.specs.Blanks.{blank_alternative}
use Rattle.records.specs.declared.node.Node.{Node}
use Rattle.records.specs.declared.alternative.Alternative.{Alternative}
use Rattle.histories.specs.Calls.{Held, opened, gather, counted, refused, and_lists}
use Rattle.histories.specs.Doings.{Accepts, Does, gather_none, gather_nodes, gather_alternatives, gather_done}
use Rattle.histories.specs.Forests.{NodeOf, AlternativeOf, Nodes, Alternatives, filled}
use Rattle.histories.specs.Refusals.{of_reading}
use Rattle.histories.specs.Sizes.{AtMost, MoreThan}
use Rattle.panel.specs.Answers.{alternatives_of}
use Rattle.panel.specs.Gathered.{Gathered}
use Rattle.panel.specs.Lines
use Rattle.panel.specs.declared.gathered.Forest.{Forest}

pub few_counted : {src : Source} {h q : Held} {ns vs : List Node} {bs us : List Alternative} {j k : ℕ}
    → Does src h (gather ns bs) (and_lists (counted j k) vs us) q → k ≤ length bs
few_counted (gather_done a x l y f) = f

record Wrote (src : Source) (ws : List ℕ) (n l : ℕ) (j k : ℕ) (us : List Alternative) : Type 0 where
  pub nodes : List Node
  pub alternatives : List Alternative
  pub nodes_are : Nodes src.grammar ws nodes
  pub few_nodes : length nodes ≤ n
  pub count : j ≡ length nodes
  pub alternatives_are : Alternatives src.grammar ws alternatives
  pub few_alternatives : length alternatives ≤ l
  pub all : k ≡ length alternatives
  pub list : us ≡ filled alternatives l blank_alternative

wrote : {src : Source} {n : ℕ} {ws : List ℕ} {q : Held} {ns vs : List Node} {bs us : List Alternative} {j k : ℕ}
    → Does src (opened n ws) (gather ns bs) (and_lists (counted j k) vs us) q → Wrote src ws (length ns) (length bs) j k us
wrote (gather_done {xs = xs} {ys = ys} a x l y f) = record {
  nodes = xs;
  alternatives = ys;
  nodes_are = x;
  few_nodes = l;
  count = refl;
  alternatives_are = y;
  few_alternatives = f;
  all = refl;
  list = refl;
}

front : {X : Type 0} (xs ys zs : List X) (k : ℕ) → k ≡ length xs → zs ≡ xs ++ ys → take k zs ≡ xs
front xs ys zs k e f = ap (λ n. take n zs) e ∙ ap (take (length xs)) f ∙ take-append_seam xs ys

why : {src : Source} {n : ℕ} {ws : List ℕ} {q : Held} {ns vs : List Node} {bs us : List Alternative} {r : Refusal} → Accepts src ws
    → Does src (opened n ws) (gather ns bs) (and_lists (refused r) vs us) q
    → ((r ≡ of_reading 49 0 0) × MoreThan (NodeOf src.grammar ws) (length ns))
    ⊎ ((r ≡ of_reading 50 0 0) × AtMost (NodeOf src.grammar ws) (length ns) × MoreThan (AlternativeOf src.grammar ws) (length bs))
why a (gather_none x) = absurd (x a)
why a (gather_nodes b x) = inl (refl, x)
why a (gather_alternatives b x y) = inr (refl, x, y)

-- What is gathered into lists of 512 and 2,048 slots.
module _ (src : Source) (h q : Held) (ns vs : List Node) (bs us : List Alternative) (room : length ns ≡ 512) (more : length bs ≡ 2048)
    (n : ℕ) (ws : List ℕ) (is_open : h ≡ opened n ws) where
  pub forest_made : (f : Forest) → f.list ≡ us → Does src h (gather ns bs) (and_lists (counted f.counts.nodes f.counts.alternatives) vs us) q → Gathered src.grammar ws f
  forest_made f e d =
      let w = wrote (subst (λ x. Does src x (gather ns bs) (and_lists (counted f.counts.nodes f.counts.alternatives) vs us) q) is_open d) in
      let k : alternatives_of f ≡ w.alternatives = front w.alternatives _ f.list f.counts.alternatives w.all (e ∙ w.list) in
      record {
        nodes = w.nodes;
        nodes_are = w.nodes_are;
        few_nodes = omega (arith, w.few_nodes, room);
        count = w.count;
        alternatives_are = subst (λ ys. Alternatives src.grammar ws ys) (sym k) w.alternatives_are;
        few_alternatives = omega (arith, w.few_alternatives, more, ap length k);
      }

  pub forest_refused : (r : Refusal) → Accepts src ws → Does src h (gather ns bs) (and_lists (refused r) vs us) q
      → ((Lines.refused r ≡ Lines.refused (of_reading 49 0 0)) × MoreThan (NodeOf src.grammar ws) 512)
      ⊎ ((Lines.refused r ≡ Lines.refused (of_reading 50 0 0)) × AtMost (NodeOf src.grammar ws) 512 × MoreThan (AlternativeOf src.grammar ws) 2048)
  forest_refused r a d = elim (why a (subst (λ x. Does src x (gather ns bs) (and_lists (refused r) vs us) q) is_open d)) [
    | inl x ↦ inl (ap (λ (z : Refusal). Lines.refused z) x.0, subst (λ k. MoreThan (NodeOf src.grammar ws) k) room x.1)
    | inr x ↦ inr (ap (λ (z : Refusal). Lines.refused z) x.0, subst (λ k. AtMost (NodeOf src.grammar ws) k) room x.1, subst (λ k. MoreThan (AlternativeOf src.grammar ws) k) more x.2)
  ]
