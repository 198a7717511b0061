-- What the order of nodes says of a list that is in order.
use Rattle.std.proofs.Common.{◌≡◌, ℕ, ◌+◌, ◌-◌, ◌<◌, ◌≤◌, Bool, true, false, ◌&&◌, ◌||◌, nat_lt, nat_eq, eqb-true, ◌⊎◌, List, length, get_or, take, drop, map, Option, Some, None, MatchOption, Ordering, Less, Equal, Greater, sym, refl, ap, ◌∙◌, subst, inl, inr, arith}
use Rattle.std.specs.Ordering.{ordering_then, nat_cmp}
use Rattle.std.proofs.lemmas.Cmp.{ranked}
use Rattle.std.specs.Bool.{then_some}
use Rattle.std.specs.List.{slice_get, prefix_len, AllWithin, HoldsAt}
use Rattle.std.proofs.lemmas.List.Folds.{length-prefix_len}
use Rattle.std.proofs.lemmas.List.Sums.{prefix_len-le-length, prefix_len_passes, prefix_len_stops}
use Rattle.std.proofs.lemmas.List.{take_rest, length-drop, get_or-drop, length-take-le, get_or-take, get_or-map, get_or_default, length-map}
use Rattle.std.proofs.lemmas.Option.{slice_get_within, get_or_from_slice_get}
use Rattle.std.specs.List.Sorted.{IsPartitionedBy, IsPartitionPoint}
use Rattle.std.proofs.lemmas.Bool.{cases_lt, or_cases, and_parts, false≢true}
use Rattle.std.proofs.lemmas.Bool.Decides.{nat_tests}
use borrow.Author.Tests.{ltb-true}
use Rattle.register.specs.Lists.{Has, Climbs}
use Rattle.records.specs.Orders.{node_cmp}
use Rattle.records.specs.declared.node.Node.{Node}
use Rattle.forest.specs.Finding.{node_at, node_of, Before, LowerBound, AllDone, Open, NoneBelow}

split : (a b : Ordering) → ordering_then a b ≡ Less → (a ≡ Less) ⊎ ((a ≡ Equal) × (b ≡ Less))
split Less b h = inl refl
split Equal b h = inr (refl, h)
split Greater b h = let z : ◌≡◌ {A = ℕ} 0 1 = cc in absurd (omega arith)

-- A node that is below another begins before it, or with it and ends before it, or with it.
abbrev pub Below : Node → Node → Type 0
Below x y = (x.from < y.from) ⊎ ((x.from ≡ y.from) × ((x.to < y.to) ⊎ ((x.to ≡ y.to) × (x.symbol < y.symbol))))

pub node_less : (x y : Node) → node_cmp x y ≡ Less → Below x y
node_less x y h = elim (split (nat_cmp x.from y.from) (ordering_then (nat_cmp x.to y.to) (nat_cmp x.symbol y.symbol)) h) [
  | inl a ↦ inl (ranked x.from y.from Less (sym a))
  | inr (a, b) ↦ inr (
    ranked x.from y.from Equal (sym a),
    elim (split (nat_cmp x.to y.to) (nat_cmp x.symbol y.symbol) b) [
      | inl c ↦ inl (ranked x.to y.to Less (sym c))
      | inr (c, d) ↦ inr (ranked x.to y.to Equal (sym c), ranked x.symbol y.symbol Less (sym d))
    ],
  )
]

-- The test that a node comes before those from i that end at j or later.
abbrev pub comes_before : ℕ → ℕ → Node → Bool
comes_before i j z = nat_lt z.from i || (nat_eq z.from i && nat_lt z.to j)

before_from_test : (z : Node) (i j : ℕ) → comes_before i j z ≡ true → Before z i j
before_from_test z i j h = elim (or_cases (nat_lt z.from i) (nat_eq z.from i && nat_lt z.to j) h) [
  | inl l ↦ inl (ltb-true z.from i l)
  | inr l ↦ let (a, b) = and_parts (nat_eq z.from i) (nat_lt z.to j) l in inr (eqb-true z.from i a, ltb-true z.to j b)
]

test_from_before : (z : Node) (i j : ℕ) → Before z i j → comes_before i j z ≡ true
test_from_before z i j (inl l) = grind (arith, nat_tests)
test_from_before z i j (inr (e, l)) = grind (arith, nat_tests)

below_before : (x y : Node) (i j : ℕ) → Below x y → Before y i j → Before x i j
below_before x y i j (inl l) (inl m) = inl (omega arith)
below_before x y i j (inl l) (inr (e, m)) = inl (omega arith)
below_before x y i j (inr (e, b)) (inl m) = inl (omega arith)
below_before x y i j (inr (e, inl l)) (inr (f, m)) = inr (e ∙ f, omega arith)
below_before x y i j (inr (e, inr (d, l))) (inr (f, m)) = inr (e ∙ f, omega arith)

-- The test that a node is from i to j.
abbrev pub stands : ℕ → ℕ → Node → Bool
stands i j y = nat_eq y.from i && nat_eq y.to j

module _ (us : List Node) (i j k : ℕ) where
  -- In order, the nodes that come before stand before the others.
  pub parted : Climbs node_cmp us → IsPartitionedBy (comes_before i j) us
  parted up a b d ab bl h = elim (cases_lt a b) [
    | inl l ↦
        test_from_before (get_or us a d) i j
        (below_before (get_or us a d) (get_or us b d) i j (node_less (get_or us a d) (get_or us b d) (up a b d l bl)) (before_from_test (get_or us b d) i j h))
    | inr l ↦ let q : b ≡ a = omega arith in subst (λ t. comes_before i j (get_or us t d) ≡ true) q h
  ]

  pub bound_at : k ≤ length us
      → (Climbs node_cmp us → IsPartitionPoint (λ y. comes_before i j y ≡ true) (λ y. comes_before i j y ≡ false) us k)
      → LowerBound us i j k
  bound_at l f = record {
    within = l;
    below = λ up t h. before_from_test (node_of us t) i j ((f up).0 t (node_at 0 0 0) (omega arith) h);
    above = λ up t h m b. false≢true (sym ((f up).1 t (node_at 0 0 0) h m) ∙ test_from_before (node_of us t) i j b);
  }

module _ (us : List Node) (i n k : ℕ) (bound : LowerBound us i n k) (up : Climbs node_cmp us) where
  -- Where a node of the list stands.
  place : (z : Node) → Has us z → (t : ℕ) × (t < length us) × (node_of us t ≡ z)
  place z (t, l, e) = (t, l, e (node_at 0 0 0))

  past : (z : Node) (t : ℕ) → t < length us → node_of us t ≡ z → z.from ≡ i → z.to < n → t < k
  past z t l e f s = elim (cases_lt t k) [
    | inl m ↦ m
    | inr m ↦ absurd (bound.above up t m l (subst (λ (y : Node). Before y i n) (sym e) (inr (f, s))))
  ]

  -- A node that is not after the one at k - 1.
  up_to : (z : Node) (t : ℕ) → t < k → node_of us t ≡ z → (z ≡ node_of us (k - 1)) ⊎ Below z (node_of us (k - 1))
  up_to z t l e = elim (cases_lt t (k - 1)) [
    | inl m ↦ inr (subst (λ (y : Node). Below y (node_of us (k - 1))) e
        (node_less (node_of us t) (node_of us (k - 1)) (up t (k - 1) (node_at 0 0 0) m (let w = bound.within in omega arith))))
    | inr m ↦ let q : k - 1 ≡ t = omega arith in inl (sym e ∙ ap (node_of us) (sym q))
  ]

  pub last_below : (z : Node) → Has us z → z.from ≡ i → z.to < n → (node_of us (k - 1)).from ≡ i → z.to ≤ (node_of us (k - 1)).to
  last_below z h f s g =
      let (t, l, q) = place z h in
      let w = past z t l q f s in
      elim (up_to z t w q) [
        | inl e ↦ let d = ap (λ (y : Node). y.to) e in omega arith
        | inr (inl m) ↦ absurd (omega arith)
        | inr (inr (e, inl m)) ↦ omega arith
        | inr (inr (e, inr (d, m))) ↦ omega arith
      ]

  pub nothing_below : 0 < k → ((node_of us (k - 1)).from ≡ i → (node_of us (k - 1)).to < n → ⊥) → NoneBelow us i n
  nothing_below pos not z h f =
      let (t, l, q) = place z h in
      elim (cases_lt z.to n) [
        | inr s ↦ s
        | inl s ↦ absurd
            (let w = past z t l q f s in
            elim (bound.below up (k - 1) (omega arith)) [
              | inl a ↦ elim (up_to z t w q) [
                | inl e ↦ let d = ap (λ (y : Node). y.from) e in omega arith
                | inr (inl m) ↦ omega arith
                | inr (inr (e, m)) ↦ omega arith
              ]
              | inr (a, b) ↦ not a b
            ])
      ]

-- The last of the first k nodes.
module _ (us : List Node) (k : ℕ) (kl : k ≤ length us) where
  pub last_some : (x : Node) → slice_get (take k us) (length (take k us) - 1) ≡ Some x → (0 < k) × (node_of us (k - 1) ≡ x)
  last_some x e =
      let n = length-take-le k us kl in
      let w = slice_get_within (take k us) (length (take k us) - 1) x e in (
        omega arith,
        sym (get_or-take k us (k - 1) (node_at 0 0 0) (omega arith)) ∙ ap (λ t. node_of (take k us) (t - 1)) (sym n)
            ∙ get_or_from_slice_get (take k us) (length (take k us) - 1) x (node_at 0 0 0) e,
      )

-- The nodes from i to j stand together, from the bound on.
module _ (us : List Node) (i j k : ℕ) (bound : LowerBound us i j k) where
  -- The nodes from k up to m are from i to j, and done.
  abbrev pub Run : List Bool → ℕ → Type 0
  Run done m = (t : ℕ) → k ≤ t → t < m → ((node_of us t).from ≡ i) × ((node_of us t).to ≡ j) × (get_or done (node_of us t).symbol false ≡ true)

  -- The run ends at m: all nodes from i to j are in it.
  pub run_all : (done : List Bool) (m : ℕ) → k ≤ m → (m < length us → (node_of us m).from ≡ i → (node_of us m).to ≡ j → ⊥)
      → Run done m → Climbs node_cmp us → AllDone us i j done
  run_all done m km stop r up z (t, l, e) f s =
      let q : node_of us t ≡ z = e (node_at 0 0 0) in
      let qf = ap (λ (y : Node). y.from) q in
      let qt = ap (λ (y : Node). y.to) q in
      let kt : k ≤ t = (elim (cases_lt t k) [
        | inl n ↦ absurd (elim (bound.below up t n) [ inl a ↦ omega arith | inr (a, b) ↦ omega arith ])
        | inr n ↦ n
      ]) in
      elim (cases_lt t m) [
        | inl n ↦ let (a, b, d) = r t kt n in subst (λ (y : Node). get_or done y.symbol false ≡ true) q d
        | inr n ↦ absurd (elim (cases_lt m t) [
          | inr p ↦ let w : m ≡ t = omega arith in
              stop (omega arith) (ap (λ x. (node_of us x).from) w ∙ qf ∙ f) (ap (λ x. (node_of us x).to) w ∙ qt ∙ s)
          | inl p ↦ elim (node_less (node_of us m) (node_of us t) (up m t (node_at 0 0 0) p l)) [
            | inl a ↦ bound.above up m km (omega arith) (inl (omega arith))
            | inr (a, inl b) ↦ bound.above up m km (omega arith) (inr (a ∙ qf ∙ f, omega arith))
            | inr (a, inr (b, d)) ↦ stop (omega arith) (a ∙ qf ∙ f) (b ∙ qt ∙ s)
          ]
        ])
      ]

  -- The list from the bound on.
  abbrev pub tail : List Node
  tail = take (length us - k) (drop k us)

  pub tail_length : length tail ≡ length us - k
  tail_length = ap length (take_rest us k) ∙ length-drop k us

  pub tail_node : (t : ℕ) → node_of tail t ≡ node_of us (k + t)
  tail_node t = ap (λ vs. node_of vs t) (take_rest us k) ∙ get_or-drop k us t (node_at 0 0 0)

  -- The first m nodes of the tail are from i to j, and done.
  abbrev pub TailRun : List Bool → ℕ → Type 0
  TailRun done m = (t : ℕ) → t < m → ((node_of tail t).from ≡ i) × ((node_of tail t).to ≡ j) × (get_or done (node_of tail t).symbol false ≡ true)

  pub run_from_tail : (done : List Bool) (m : ℕ) → TailRun done m → Run done (k + m)
  run_from_tail done m r t kt tm =
      let q : k + (t - k) ≡ t = omega arith in
      subst (λ (y : Node). (y.from ≡ i) × (y.to ≡ j) × (get_or done y.symbol false ≡ true)) (tail_node (t - k) ∙ ap (node_of us) q) (r (t - k) (omega arith))

  -- How many nodes of the tail stand together, from i to j, and their symbols.
  abbrev pub together : ℕ
  together = prefix_len (stands i j) tail

  abbrev pub symbols : List ℕ
  symbols = map (λ (y : Node). y.symbol) (take together tail)

  long : length symbols ≡ together
  long = length-map (take together tail) (λ (y : Node). y.symbol) ∙ length-prefix_len (stands i j) tail

  at_symbol : (t d : ℕ) → t < together → get_or symbols t d ≡ (node_of tail t).symbol
  at_symbol t d l =
      get_or-map (λ (y : Node). y.symbol) (take together tail) t (node_at 0 0 0) d (let n = length-prefix_len (stands i j) tail in omega arith)
      ∙ ap (λ (y : Node). y.symbol) (get_or-take together tail t (node_at 0 0 0) l)

  in_run : (t : ℕ) → t < together → ((node_of tail t).from ≡ i) × ((node_of tail t).to ≡ j)
  in_run t l =
      let y = node_of tail t in
      let (a, b) = and_parts (nat_eq y.from i) (nat_eq y.to j) (prefix_len_passes (stands i j) tail t (node_at 0 0 0) l) in
      (eqb-true y.from i a, eqb-true y.to j b)

  past_run : together < length tail → (node_of tail together).from ≡ i → (node_of tail together).to ≡ j → ⊥
  past_run l e f =
      let s : stands i j (node_of tail together) ≡ false = prefix_len_stops (stands i j) tail (node_at 0 0 0) l in
      grind (arith, nat_tests)

  pub run_done : (done : List Bool) → AllWithin (λ x. get_or done x false ≡ true) symbols 0 (length symbols) → Climbs node_cmp us → AllDone us i j done
  run_done done h =
      run_all done (k + together) (omega arith)
      (λ l e f. past_run (let n = tail_length in omega arith) (ap (λ (y : Node). y.from) (tail_node together) ∙ e) (ap (λ (y : Node). y.to) (tail_node together) ∙ f))
      (run_from_tail done together
      (λ t l. let (a, b) = in_run t l in
      (a, b, subst (λ x. get_or done x false ≡ true) (at_symbol t 0 l) (h t 0 (omega arith) (let n = long in omega arith)))))

  pub run_open : (done : List Bool) (x t : ℕ) → x < 256 → get_or done x false ≡ false → t < length symbols → HoldsAt (λ y. y ≡ x) symbols t → Open us i j done x
  run_open done x t small fresh l at =
      let m : t < together = (let n = long in omega arith) in
      let y = node_of tail t in
      let (a, b) = in_run t m in
      let q : y.symbol ≡ x = sym (at_symbol t 0 m) ∙ at 0 in
      let same : y ≡ node_at x i j = λ r. record { from = a r; to = b r; symbol = q r } in
      let kt : k + t < length us = (let n = tail_length in let p = prefix_len-le-length (stands i j) tail in omega arith) in
      record {
        held = (k + t, kt, λ d. get_or_default us (k + t) d (node_at 0 0 0) kt ∙ sym (tail_node t) ∙ same);
        fresh = fresh;
        small = small;
      }

pub match_as : (r : Option ℕ) (A C : Type 0) (B D : ℕ → Type 0) → (A → C) → ((x : ℕ) → r ≡ Some x → B x → D x) → MatchOption r A B → MatchOption r C D
match_as None A C B D f g m = f m
match_as (Some x) A C B D f g m = g x refl m

pub match_some : (r : Option ℕ) (t : Bool) (v : ℕ) (A : Type 0) (B : ℕ → Type 0) → r ≡ then_some t v → (t ≡ false → A) → (t ≡ true → B v) → MatchOption r A B
match_some r true v A B e f g = subst (λ o. MatchOption o A B) (sym e) (g refl)
match_some r false v A B e f g = subst (λ o. MatchOption o A B) (sym e) (f refl)
