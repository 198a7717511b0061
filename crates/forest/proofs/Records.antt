-- The records of the alternatives that are met.
use Rattle.std.proofs.Common.{◌≡◌, ℕ, ◌+◌, ◌-◌, ◌<◌, ◌≤◌, Bool, true, List, ◌++◌, length, get_or, take, replicate, sym, refl, ◌∙◌, subst, subst₂, inl, inr, arith}
use Rattle.std.proofs.lemmas.List.{length-take-le, length-append, length-replicate, get_or-take, get_or_append_left, get_or-append_right, get_or-replicate, get_or_default}
use Rattle.std.proofs.lemmas.Bool.{cases_lt}
use Rattle.std.proofs.lemmas.Grind.{same_number_lists}
use Rattle.parsing.specs.Grammar.{Grammar, WellFormed, rule_count, lhs, rhs}
use Rattle.spans.specs.Spans.{part_fits, Met}
use Rattle.records.specs.declared.node.Node.{Node}
use Rattle.records.specs.declared.alternative.Alternative.{Alternative}
use Rattle.forest.specs.Parts.{Of}
use Rattle.forest.specs.Finding.{node_at, node_of}
use Rattle.forest.specs.Sweeps.{MetNode, Exactly, OfSome}
use Rattle.forest.specs.Forests.{recorded, MetRecord}

pub padded_length : (cs : List ℕ) → length cs ≤ 8 → length (cs ++ replicate (8 - length cs) 255) ≡ 8
padded_length cs l =
    let a = length-append cs (replicate {A = ℕ} (8 - length cs) 255) in
    let b = length-replicate {A = ℕ} (8 - length cs) 255 in
    omega arith

pub padded_used : (cs : List ℕ) (k : ℕ) → k < length cs → get_or (cs ++ replicate (8 - length cs) 255) k 0 ≡ get_or cs k 0
padded_used cs k l = get_or_append_left cs (replicate (8 - length cs) 255) 0 k l

pub padded_unused : (cs : List ℕ) (k : ℕ) → length cs ≤ k → k < 8 → get_or (cs ++ replicate (8 - length cs) 255) k 0 ≡ 255
padded_unused cs k l m =
    get_or-append_right cs (replicate (8 - length cs) 255) (length cs) k 0 refl l
    ∙ get_or-replicate (8 - length cs) (k - length cs) 255 0 (omega arith)

module _ (g : Grammar) (wf : WellFormed g) (fits : ℕ → ℕ → ℕ → Bool) (n : ℕ) (us : List Node) (exact : Exactly g fits n us) where
  -- An alternative of a node that is met is met.
  pub of_met : (z : Alternative) → OfSome g fits us (length us) z → MetRecord g fits n z
  of_met z x =
      let y = node_of us x.index in
      let o = x.of in
      let r = z.rule in
      let m = length (rhs g r) in
      let w = o.whole in
      let short = wf.short r o.rule_in in
      let cs = take (m + 1) z.cuts in
      let lc : length cs ≡ m + 1 = length-take-le (m + 1) z.cuts (let l = w.long in omega arith) in
      let at : (k : ℕ) → k < m + 1 → get_or cs k 0 ≡ get_or z.cuts k 0 = λ k l. get_or-take (m + 1) z.cuts k 0 l in
      let met : MetNode g fits n y = exact.sound y (x.index, x.index_in, λ d. get_or_default us x.index d (node_at 0 0 0) x.index_in) in
      record {
        rule = r;
        cuts = cs;
        met = (
          record {
            rule_in = o.rule_in;
            count = lc;
            fit = λ p l. subst₂ (λ a b. part_fits g fits r p a b ≡ true) (sym (at p (omega arith))) (sym (at (p + 1) (omega arith))) (w.fit p l);
          },
          subst₂ (λ a b. Met g fits n (lhs g r) a b) (sym (at 0 (omega arith) ∙ w.from)) (sym (at m (omega arith) ∙ w.to))
              (subst (λ X. Met g fits n X y.from y.to) (sym o.left) met),
        );
        here = λ i. record { rule = r; cuts = whole_cuts cs (at) lc short w.long w.unused i };
      }
    where
      whole_cuts : (cs : List ℕ) → ((k : ℕ) → k < length (rhs g z.rule) + 1 → get_or cs k 0 ≡ get_or z.cuts k 0) → length cs ≡ length (rhs g z.rule) + 1
          → length (rhs g z.rule) ≤ 7 → length z.cuts ≡ 8 → ((q : ℕ) → length (rhs g z.rule) < q → q < 8 → get_or z.cuts q 0 ≡ 255)
          → z.cuts ≡ cs ++ replicate (8 - length cs) 255
      whole_cuts cs at lc short long unused =
          same_number_lists z.cuts (cs ++ replicate (8 - length cs) 255) (long ∙ sym (padded_length cs (omega arith)))
          (λ k l. elim (cases_lt k (length cs)) [
            | inl a ↦ sym (at k (omega arith)) ∙ sym (padded_used cs k a)
            | inr a ↦ unused k (omega arith) (omega arith) ∙ sym (padded_unused cs k a (omega arith))
          ])

  -- The record of an alternative that is met is one of a node that is met.
  pub met_of : (z : Alternative) → MetRecord g fits n z → OfSome g fits us (length us) z
  met_of z x =
      let r = x.rule in
      let cs = x.cuts in
      let f = x.met.0 in
      let m = length (rhs g r) in
      let short = wf.short r f.rule_in in
      let lc = f.count in
      let y : Node = node_at (lhs g r) (get_or cs 0 0) (get_or cs m 0) in
      let (k, l, e) = exact.whole y x.met.1 in
      let at : (q : ℕ) → q < m + 1 → get_or (recorded r cs).cuts q 0 ≡ get_or cs q 0 = λ q h. padded_used cs q (omega arith) in
      let w : Of g fits y (rule_count g) (recorded r cs) = record {
        rule_in = f.rule_in;
        left = refl;
        whole = record {
          rule = refl;
          long = padded_length cs (omega arith);
          from = at 0 (omega arith);
          to = at m (omega arith);
          fit = λ q h. subst₂ (λ a b. part_fits g fits r q a b ≡ true) (sym (at q (omega arith))) (sym (at (q + 1) (omega arith))) (f.fit q h);
          unused = λ q a b. padded_unused cs q (omega arith) b;
        };
      } in
      record {
        index = k;
        index_in = l;
        of = subst₂ (λ (v : Node) (t : Alternative). Of g fits v (rule_count g) t) (sym (e (node_at 0 0 0))) (sym x.here) w;
      }
