-- The parts of a node, wherever they are placed.
use Rattle.std.proofs.Common.{◌≡◌, ℕ, ◌+◌, ◌<◌, ◌≤◌, Bool, true, ◌⊎◌, List, [], length, get_or, sym, ap, ◌∙◌, subst, inl, inr, arith}
use Rattle.std.proofs.lemmas.Bool.{cases_lt}
use Rattle.parsing.specs.Grammar.{Grammar, lhs, rhs}
use Rattle.spans.specs.Spans.{step, part_fits, Placed}
use Rattle.register.specs.Registers.{Grew, Lacks}
use Rattle.records.specs.Registers.{Nodes}
use Rattle.register.proofs.Growing.{grew_none, grew_then, grew_as, lacks_then}
use Rattle.records.specs.declared.node.Node.{Node}
use Rattle.forest.specs.Marks.{Completes, Leads}
use Rattle.forest.specs.Parts.{Between, PartOf, PartBelow}
use Rattle.forest.proofs.Rows.{path_forward}

module _ (g : Grammar) (fits : ℕ → ℕ → ℕ → Bool) (forward : (x a b : ℕ) → fits x a b ≡ true → a ≤ b) (r i j : ℕ) where
  onward : (p a b : ℕ) → part_fits g fits r p a b ≡ true → a ≤ b
  onward p a b = forward (get_or (rhs g r) p 0) a b

  pub parts_none : (a : Nodes) → Grew (PartOf g fits r i j 0) a a
  parts_none a = grew_none (PartOf g fits r i j 0) a (λ z x. let l = x.part_in in absurd (omega arith))

  module _ (p : ℕ) (before : List Bool) (rows : List (List Bool)) (pm : p < length (rhs g r))
      (left : Leads (part_fits g fits r) (length (rhs g r)) i j p before) (right : Completes (part_fits g fits r) (length (rhs g r)) i j rows 1) where
    -- The nodes of part p.
    abbrev pub Here : Node → Type 0
    Here = Between (fits (get_or (rhs g r) p 0)) before (get_or rows (p + 1) []) (get_or (rhs g r) p 0) i j

    here_part : g.terminals ≤ get_or (rhs g r) p 0 → (n : ℕ) → p < n → (z : Node) → Here z → PartOf g fits r i j n z
    here_part t n l z w = record {
      part = p;
      part_in = l;
      symbol = w.symbol;
      nonterminal = (let s = w.symbol in omega arith);
      placed = record {
        part_in = pm;
        before = left.sound z.from w.begun;
        here = w.fits;
        behind = right.sound (p + 1) z.to (omega arith) (omega arith) w.marked;
      };
    }

    part_here : (z : Node) (x : PartOf g fits r i j (p + 1) z) → x.part ≡ p → Here z
    part_here z x e =
        let w : Placed g fits r i j p z.from z.to = subst (λ t. Placed g fits r i j t z.from z.to) e x.placed in
        let a = path_forward (part_fits g fits r) onward w.before in
        let b = path_forward (part_fits g fits r) onward w.behind in
        let c = onward p z.from z.to w.here in
        record {
          symbol = x.symbol ∙ ap (λ t. get_or (rhs g r) t 0) e;
          low = a;
          high = omega arith;
          to = b;
          begun = left.whole z.from w.before (step z.to w.here w.behind);
          fits = w.here;
          marked = right.whole (p + 1) z.to (omega arith) (omega arith) (omega arith) w.behind;
        }

    wider : (n : ℕ) → p < n → (z : Node) → PartOf g fits r i j p z → PartOf g fits r i j n z
    wider n l z x = record { part = x.part; part_in = let k = x.part_in in omega arith; symbol = x.symbol; nonterminal = x.nonterminal; placed = x.placed }

    narrower : (z : Node) (x : PartOf g fits r i j (p + 1) z) → x.part < p → PartOf g fits r i j p z
    narrower z x l = record { part = x.part; part_in = l; symbol = x.symbol; nonterminal = x.nonterminal; placed = x.placed }

    pub part_taken : (a b c : Nodes) → g.terminals ≤ get_or (rhs g r) p 0
        → Grew (PartOf g fits r i j p) a b → Grew Here b c → Grew (PartOf g fits r i j (p + 1)) a c
    part_taken a b c t u v =
        grew_then (PartOf g fits r i j p) Here (PartOf g fits r i j (p + 1)) a b c
        (wider (p + 1) (omega arith)) (here_part t (p + 1) (omega arith))
        (λ z x. elim (cases_lt x.part p) [ inl l ↦ inl (narrower z x l) | inr l ↦ inr (part_here z x (let k = x.part_in in omega arith)) ])
        u v

    pub part_passed : (a b : Nodes) → get_or (rhs g r) p 0 < g.terminals
        → Grew (PartOf g fits r i j p) a b → Grew (PartOf g fits r i j (p + 1)) a b
    part_passed a b t u =
        grew_as (PartOf g fits r i j p) (PartOf g fits r i j (p + 1)) a b (wider (p + 1) (omega arith))
        (λ z x. elim (cases_lt x.part p) [
          | inl l ↦ narrower z x l
          | inr l ↦
              let e : x.part ≡ p = (let k = x.part_in in omega arith) in
              let s : z.symbol ≡ get_or (rhs g r) p 0 = x.symbol ∙ ap (λ q. get_or (rhs g r) q 0) e in
              let n = x.nonterminal in
              absurd (omega arith)
        ])
        u

    pub part_short : (a b c : Nodes) → g.terminals ≤ get_or (rhs g r) p 0
        → Grew (PartOf g fits r i j p) a b → Lacks Here b c → Lacks (PartOf g fits r i j (length (rhs g r))) a c
    part_short a b c t u v =
        lacks_then (PartOf g fits r i j p) Here (PartOf g fits r i j (length (rhs g r))) a b c
        (wider (length (rhs g r)) pm) (here_part t (length (rhs g r)) pm) u v

module _ (g : Grammar) (fits : ℕ → ℕ → ℕ → Bool) (y : Node) where
  -- The parts by rule r.
  abbrev pub By : ℕ → Node → Type 0
  By r = PartOf g fits r y.from y.to (length (rhs g r))

  by_rule : (r n : ℕ) → lhs g r ≡ y.symbol → r < n → (z : Node) → By r z → PartBelow g fits y n z
  by_rule r n l h z x = record { rule = r; rule_in = h; left = l; by = x }

  more_rules : (r n : ℕ) → r ≤ n → (z : Node) → PartBelow g fits y r z → PartBelow g fits y n z
  more_rules r n l z x = record { rule = x.rule; rule_in = let h = x.rule_in in omega arith; left = x.left; by = x.by }

  rule_split : (r : ℕ) (z : Node) → PartBelow g fits y (r + 1) z → PartBelow g fits y r z ⊎ (By r z × (lhs g r ≡ y.symbol))
  rule_split r z x =
      elim (cases_lt x.rule r) [
        | inl l ↦ inl (record { rule = x.rule; rule_in = l; left = x.left; by = x.by })
        | inr l ↦
            let k : x.rule ≡ r = (let h = x.rule_in in omega arith) in
            inr (subst (λ t. By t z) k x.by, ap (lhs g) (sym k) ∙ x.left)
      ]

  pub rule_taken : (a b c : Nodes) (r : ℕ) → lhs g r ≡ y.symbol
      → Grew (PartBelow g fits y r) a b → Grew (By r) b c → Grew (PartBelow g fits y (r + 1)) a c
  rule_taken a b c r l u v =
      grew_then (PartBelow g fits y r) (By r) (PartBelow g fits y (r + 1)) a b c
      (more_rules r (r + 1) (omega arith)) (by_rule r (r + 1) l (omega arith))
      (λ z x. elim (rule_split r z x) [ inl w ↦ inl w | inr w ↦ inr w.0 ]) u v

  pub rule_passed : (a b : Nodes) (r : ℕ) → (lhs g r ≡ y.symbol → ⊥)
      → Grew (PartBelow g fits y r) a b → Grew (PartBelow g fits y (r + 1)) a b
  rule_passed a b r l u =
      grew_as (PartBelow g fits y r) (PartBelow g fits y (r + 1)) a b
      (more_rules r (r + 1) (omega arith)) (λ z x. elim (rule_split r z x) [ inl w ↦ w | inr w ↦ absurd (l w.1) ]) u

  pub rule_short : (a b c : Nodes) (r n : ℕ) → lhs g r ≡ y.symbol → r < n
      → Grew (PartBelow g fits y r) a b → Lacks (By r) b c → Lacks (PartBelow g fits y n) a c
  rule_short a b c r n l rn u v =
      lacks_then (PartBelow g fits y r) (By r) (PartBelow g fits y n) a b c
      (more_rules r n (omega arith)) (by_rule r n l rn) u v
