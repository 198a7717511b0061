-- How a sweep goes on, and what it has at its end.
use Rattle.std.proofs.Common.{◌≡◌, ℕ, zero, suc, ◌+◌, ◌<◌, ◌≤◌, Bool, true, false, ◌⊎◌, List, [], ◌∷◌, length, get_or, set, replicate, sym, refl, subst, inl, inr, true≢false, arith}
use Rattle.std.proofs.lemmas.Bool.{cases_order, cases_lt}
use Rattle.parsing.specs.Grammar.{Grammar, Nonterminal, WellFormed, rule_count, lhs, rhs, start}
use Rattle.spans.specs.Spans.{part_fits, Placed, Met, crown, below}
use Rattle.register.specs.Lists.{Has, More}
use Rattle.register.specs.Registers.{held, room, Grew, Lacks}
use Rattle.records.specs.Registers.{Nodes}
use Rattle.register.proofs.Growing.{has_none}
use Rattle.records.specs.declared.node.Node.{Node}
use Rattle.forest.specs.Marks.{Marked}
use Rattle.forest.specs.Parts.{PartBelow}
use Rattle.forest.proofs.Rows.{path_forward, marked_back, unmarked}
use Rattle.forest.specs.Finding.{node_at, AllDone, Open, NoneBelow, LastBelow}
use Rattle.forest.specs.Sweeps.{MetNode, Sweep, Past, Exactly}

-- The nodes that begin before i, or at i and end after j, and those from i to j that are done.
abbrev pub Cell : ℕ → ℕ → List Bool → Node → Type 0
Cell i j done z = Past i (j + 1) z ⊎ ((z.from ≡ i) × (z.to ≡ j) × Marked done z.symbol)

-- What is done is held.
abbrev pub DoneHeld : ℕ → ℕ → List Bool → List Node → Type 0
DoneHeld i j done us = (x : ℕ) → Marked done x → Has us (node_at x i j)

-- How many marks are missing.
abbrev pub falses : List Bool → ℕ
falses [] = 0
falses (true ∷ bs) = falses bs
falses (false ∷ bs) = suc (falses bs)

pub falses_set : (bs : List Bool) (x : ℕ) → x < length bs → get_or bs x false ≡ false → falses (set bs x true) < falses bs
falses_set [] x l e = absurd (omega arith)
falses_set (true ∷ bs) zero l e = absurd (true≢false e)
falses_set (false ∷ bs) zero l e = omega arith
falses_set (true ∷ bs) (suc x) l e = falses_set bs x (omega arith) e
falses_set (false ∷ bs) (suc x) l e = let h = falses_set bs x (omega arith) e in omega arith

module _ (g : Grammar) (wf : WellFormed g) (fits : ℕ → ℕ → ℕ → Bool) (forward : (x a b : ℕ) → fits x a b ≡ true → a ≤ b) where
  onward : (r p a b : ℕ) → part_fits g fits r p a b ≡ true → a ≤ b
  onward r p a b = forward (get_or (rhs g r) p 0) a b

  -- A part lies inside its node.
  placed_inside : (r i j p a b : ℕ) → Placed g fits r i j p a b → (i ≤ a) × (a ≤ b) × (b ≤ j)
  placed_inside r i j p a b w = (
    path_forward (part_fits g fits r) (onward r) w.before,
    onward r p a b w.here,
    path_forward (part_fits g fits r) (onward r) w.behind,
  )

  inside : (y z : Node) (k : ℕ) → PartBelow g fits y k z → (y.from ≤ z.from) × (z.from ≤ z.to) × (z.to ≤ y.to)
  inside y z k x = placed_inside x.rule y.from y.to x.by.part z.from z.to x.by.placed

  -- A part of a node that is met is met.
  under : (n : ℕ) (y z : Node) → MetNode g fits n y → PartBelow g fits y (rule_count g) z → MetNode g fits n z
  under n y z m x =
      let r = x.rule in
      let w = x.by in
      let top : Met g fits n (lhs g r) y.from y.to = subst (λ X. Met g fits n X y.from y.to) (sym x.left) m in
      let nt : Nonterminal g (get_or (rhs g r) w.part 0) = record {
        low = (let s = w.symbol in let l = w.nonterminal in omega arith);
        high = wf.right_in r w.part x.rule_in w.placed.part_in;
      } in
      subst (λ X. Met g fits n X z.from z.to) (sym w.symbol) (below r w.part z.from z.to x.rule_in top w.placed nt)

  module _ (n : ℕ) where
    -- Nodes that are met lie inside the words.
    pub met_inside : {X i j : ℕ} → Met g fits n X i j → (i ≤ j) × (j ≤ n)
    met_inside crown = (omega arith, omega arith)
    met_inside (below {i} {j} r p a b h m w nt) =
        let (x, y) = met_inside m in
        let (c, d, e) = placed_inside r i j p a b w in
        (d, omega arith)

    sweep_as : (D E : Node → Type 0) (us : List Node) → ((z : Node) → Has us z → E z → D z) → Sweep g fits n D us → Sweep g fits n E us
    sweep_as D E us f s = record { top = s.top; sound = s.sound; order = s.order; closed = λ y h e. s.closed y h (f y h e) }

    -- The parts of one more node.
    sweep_grow : (D : Node → Type 0) (a b : Nodes) (y : Node) → Has (held a) y
        → ((z : Node) → PartBelow g fits y (rule_count g) z → D z → Has (held a) z)
        → Sweep g fits n D (held a) → Grew (PartBelow g fits y (rule_count g)) a b → Sweep g fits n (λ z. D z ⊎ (z ≡ y)) (held b)
    sweep_grow D a b y hy fresh s u = record {
      top = u.old (node_at (start g) 0 n) s.top;
      sound = λ z h. elim (u.only z h) [ inl x ↦ s.sound z x | inr x ↦ under n y z (s.sound y hy) x ];
      order = b.in_order;
      closed = λ w h d z x. elim d [
        | inl e ↦ elim (u.only w h) [ inl v ↦ u.old z (s.closed w v e z x) | inr v ↦ u.old z (s.closed w (fresh w v e) e z x) ]
        | inr e ↦ u.new z (subst (λ (t : Node). PartBelow g fits t (rule_count g) z) e x)
      ];
    }

    -- Where they lack room, too many nodes are met.
    pub sweep_short : (D : Node → Type 0) (a b : Nodes) (y : Node) → Has (held a) y → Sweep g fits n D (held a)
        → Lacks (PartBelow g fits y (rule_count g)) a b → More (MetNode g fits n) [] (room a)
    sweep_short D a b y hy s f =
        let m = f.short in
        record {
          some = m.some;
          apart = m.apart;
          each = λ z h. elim (m.each z h) [ inl x ↦ inr (s.sound z x) | inr x ↦ inr (under n y z (s.sound y hy) x) ];
          many = m.many;
        }

    -- A list that holds the parts of each of its nodes holds all that are met.
    sweep_all : (D : Node → Type 0) (us : List Node) → ((z : Node) → Has us z → D z) → Sweep g fits n D us → {X i j : ℕ} → Met g fits n X i j → Has us (node_at X i j)
    sweep_all D us f s crown = s.top
    sweep_all D us f s (below {i} {j} r p a b h m w nt) =
        let y : Node = node_at (lhs g r) i j in
        let hy = sweep_all D us f s m in
        s.closed y hy (f y hy) (node_at (get_or (rhs g r) p 0) a b)
        (record { rule = r; rule_in = h; left = refl; by = record { part = p; part_in = w.part_in; symbol = refl; nonterminal = nt.low; placed = w } })

    -- One more node of the cell.
    pub cell_grow : (i j x : ℕ) (done : List Bool) (a b : Nodes) → Open (held a) i j done x → DoneHeld i j done (held a)
        → Grew (PartBelow g fits (node_at x i j) (rule_count g)) a b
        → Sweep g fits n (Cell i j done) (held a) → Sweep g fits n (Cell i j (set done x true)) (held b)
    cell_grow i j x done a b o dh u s =
        sweep_as (λ z. Cell i j done z ⊎ (z ≡ node_at x i j)) (Cell i j (set done x true)) (held b) splits
        (sweep_grow (Cell i j done) a b (node_at x i j) o.held fresh s u)
      where
        fresh : (z : Node) → PartBelow g fits (node_at x i j) (rule_count g) z → Cell i j done z → Has (held a) z
        fresh z q (inl (inl l)) = let p = (inside (node_at x i j) z (rule_count g) q).0 in absurd (omega arith)
        fresh z q (inl (inr l)) = let p = (inside (node_at x i j) z (rule_count g) q).2 in let e = l.1 in absurd (omega arith)
        fresh z q (inr (e, f, m)) =
            let same : node_at z.symbol i j ≡ z = λ r. record { from = sym e r; to = sym f r; symbol = z.symbol } in
            subst (λ (t : Node). Has (held a) t) same (dh z.symbol m)

        splits : (z : Node) → Has (held b) z → Cell i j (set done x true) z → Cell i j done z ⊎ (z ≡ node_at x i j)
        splits z h (inl p) = inl (inl p)
        splits z h (inr (e, f, m)) = elim (marked_back done x z.symbol m) [
          | inl w ↦ inl (inr (e, f, w))
          | inr q ↦ inr (λ r. record { from = e r; to = f r; symbol = q r })
        ]

    pub cell_start : (i j : ℕ) (us : List Node) (done : List Bool) → done ≡ replicate 256 false → Sweep g fits n (Past i (j + 1)) us → Sweep g fits n (Cell i j done) us
    cell_start i j us done d s = sweep_as (Past i (j + 1)) (Cell i j done) us
        (λ z h c. elim c [ inl p ↦ p | inr (e, f, m) ↦ absurd (unmarked 256 z.symbol (subst (λ t. Marked t z.symbol) d m)) ]) s

    pub cell_end : (i j : ℕ) (us : List Node) (done : List Bool) → AllDone us i j done → Sweep g fits n (Cell i j done) us → Sweep g fits n (Past i j) us
    cell_end i j us done all s = sweep_as (Cell i j done) (Past i j) us ends_here s
      where
        ends_here : (z : Node) → Has us z → Past i j z → Cell i j done z
        ends_here z h (inl l) = inl (inl l)
        ends_here z h (inr (e, l)) = elim (cases_order z.to j) [
          | inl q ↦ inr (e, q, all z h e q)
          | inr (inl k) ↦ absurd (omega arith)
          | inr (inr k) ↦ inl (inr (e, omega arith))
        ]

    -- No node from i is met before its ends are looked at.
    pub row_start : (i : ℕ) (us : List Node) → n < 255 → Sweep g fits n (λ z. z.from < i) us → Sweep g fits n (Past i 255) us
    row_start i us l s = sweep_as (λ z. z.from < i) (Past i 255) us
        (λ z h p. elim p [ inl a ↦ a | inr (e, a) ↦ let (x, y) = met_inside (s.sound z h) in absurd (omega arith) ]) s

    -- On to the last end before the limit.
    pub row_next : (i limit j : ℕ) (us : List Node) → LastBelow us i limit j → Sweep g fits n (Past i limit) us → Sweep g fits n (Past i (j + 1)) us
    row_next i limit j us b s = sweep_as (Past i limit) (Past i (j + 1)) us
        (λ z h p. elim p [
          | inl a ↦ inl a
          | inr (e, a) ↦ elim (cases_lt z.to limit) [ inl l ↦ let m = b.last z h e l in absurd (omega arith) | inr l ↦ inr (e, l) ]
        ]) s

    -- All ends from i are past.
    pub row_end : (i limit : ℕ) (us : List Node) → NoneBelow us i limit → Sweep g fits n (Past i limit) us → Sweep g fits n (λ z. z.from < i + 1) us
    row_end i limit us f s = sweep_as (Past i limit) (λ z. z.from < i + 1) us
        (λ z h p. elim (cases_lt z.from i) [ inl l ↦ inl l | inr l ↦ let e : z.from ≡ i = omega arith in inr (e, f z h e) ]) s

    -- The top alone.
    pub first_sweep : (a b : Nodes) → held a ≡ [] → Grew (λ z. z ≡ node_at (start g) 0 n) a b → Sweep g fits n (λ z. z.from < 0) (held b)
    first_sweep a b none u = record {
      top = u.new (node_at (start g) 0 n) refl;
      sound = λ z h. subst (λ (t : Node). MetNode g fits n t) (sym (is_top z h)) crown;
      order = b.in_order;
      closed = λ y h l. absurd (omega arith);
    }
      where
        is_top : (z : Node) → Has (held b) z → z ≡ node_at (start g) 0 n
        is_top z h = elim (u.only z h) [ inl e ↦ absurd (has_none z (subst (λ us. Has us z) none e)) | inr e ↦ e ]

    pub first_short : (a b : Nodes) → held a ≡ [] → Lacks (λ z. z ≡ node_at (start g) 0 n) a b → More (MetNode g fits n) [] (room a)
    first_short a b none f =
        let m = f.short in
        record {
          some = m.some;
          apart = m.apart;
          each = λ z h. elim (m.each z h) [
            | inl x ↦ absurd (has_none z (subst (λ us. Has us z) none x))
            | inr x ↦ inr (subst (λ (t : Node). MetNode g fits n t) (sym x) crown)
          ];
          many = m.many;
        }

    -- At the end all nodes are past.
    pub last_sweep : (i : ℕ) (us : List Node) → n < i → Sweep g fits n (λ z. z.from < i) us → Exactly g fits n us
    last_sweep i us l s = record {
      order = s.order;
      sound = s.sound;
      whole = λ z m. sweep_all (λ z. z.from < i) us (λ y h. let (a, b) = met_inside (s.sound y h) in omega arith) s m;
    }

pub held_more : (i j x : ℕ) (done : List Bool) (a b : Nodes) (P : Node → Type 0) → Has (held a) (node_at x i j) → Grew P a b
    → DoneHeld i j done (held a) → DoneHeld i j (set done x true) (held b)
held_more i j x done a b P o u dh y m = elim (marked_back done x y m) [
  | inl w ↦ u.old (node_at y i j) (dh y w)
  | inr q ↦ subst (λ t. Has (held b) (node_at t i j)) (sym q) (u.old (node_at x i j) o)
]

pub held_none : (i j : ℕ) (us : List Node) (done : List Bool) → done ≡ replicate 256 false → DoneHeld i j done us
held_none i j us done d y m = absurd (unmarked 256 y (subst (λ t. Marked t y) d m))
