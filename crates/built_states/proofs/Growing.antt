-- How the walk over a table goes on while the table is built.
use Rattle.std.proofs.Common.{◌≡◌, ℕ, zero, suc, ◌+◌, ◌<◌, ◌≤◌, ◌≢◌, ◌⊎◌, List, [], ◌∷◌, ◌++◌, length, Some, None, Option, get_or, set, replicate, sym, refl, ap, ◌∙◌, subst, subst₂, ap₂, inl, inr, arith}
use mathlib.Core.Path.{subst₃}
use mathlib.Core.HLevel.{⊥_prop}
use mathlib.Core.Logic.{∥∥₁_elim}
use Rattle.std.proofs.lemmas.Bool.{cases_eq, cases_lt}
use Rattle.std.proofs.lemmas.List.{length-replicate, length-set, get_or-set_same, get_or-set_other, get_or-replicate, get_or_past, set-get_or}
use Rattle.parsing.specs.Grammar.{Grammar, rule_count}
use Rattle.grammar_format.specs.Fields.{listed}
use Rattle.grammar_format.proofs.Listed.{length_listed, getD_listed, listed_same, listed_more}
use Rattle.table_format.specs.ItemSets.{Items, symbols, RightSides, FirstRow, NoStep, StepTo, ItemSet}
use Rattle.table_format.specs.Tables.{Ranged, wanted_mark}
use Rattle.table_format.specs.Walks.{Known, blank, state_at, row_at, Walked, begin, mark}
use Rattle.table_format.proofs.Pigeons.{pigeons}
use Rattle.table_format.proofs.Progress.{Tried, Kept, kept}
use Rattle.table_format.proofs.Alike.{walked_alike}
use Rattle.table_format.proofs.Matching.{matching}
use Rattle.table_format.proofs.Turns.{At, at_none, at_met, at_new, at_turn}
use Rattle.rows.specs.declared.row.Row.{Row}
use Rattle.rows.specs.Rows.{items}
use Rattle.rows.specs.Changes.{Kernel}
use Rattle.rows.proofs.Stepping.{step_row}
use Rattle.built_states.specs.declared.building.Building.{Building}
use Rattle.built_states.specs.Built.{row_items, entry, step_byte, built_table, Stepped, known_rows, Built, ManyRows, Many}
use Rattle.built_states.specs.Building.{table_so_far, Roomy, CompletedAt, Come}

-- The steps with that of the state s by the symbol X changed to o.
abbrev pub put : List (List (Option ℕ)) → ℕ → ℕ → Option ℕ → List (List (Option ℕ))
put ss s X o = set ss s (set (get_or ss s []) X o)

module _ (ss : List (List (Option ℕ))) (room : Roomy ss) (s X : ℕ) (o : Option ℕ) (h : s < 255) (k : X < 64) where
  here_in : s < length ss
  here_in = omega (arith, room.states)

  row_put : get_or (put ss s X o) s [] ≡ set (get_or ss s []) X o
  row_put = get_or-set_same ss s (set (get_or ss s []) X o) [] here_in

  pub entry_same : entry (put ss s X o) s X ≡ o
  entry_same = ap (λ (xs : List (Option ℕ)). get_or xs X None) row_put ∙ get_or-set_same (get_or ss s []) X o None (omega (arith, room.symbols s h))

  pub entry_other : (j y : ℕ) → (j ≡ s → y ≢ X) → entry (put ss s X o) j y ≡ entry ss j y
  entry_other j y n =
      elim (cases_eq j s) [
        | inl e ↦
            ap (λ (i : ℕ). entry (put ss s X o) i y) e
            ∙ ap (λ (xs : List (Option ℕ)). get_or xs y None) row_put
            ∙ get_or-set_other (get_or ss s []) X y o None (n e)
            ∙ sym (ap (λ (i : ℕ). entry ss i y) e)
        | inr d ↦ ap (λ (xs : List (Option ℕ)). get_or xs y None) (get_or-set_other ss s j (set (get_or ss s []) X o) [] d)
      ]

  pub roomy_put : Roomy (put ss s X o)
  roomy_put = record { states = simp length-set room.states; symbols = kept_long }
    where
      kept_long : (j : ℕ) → j < 255 → length (get_or (put ss s X o) j []) ≡ 64
      kept_long j l =
          elim (cases_eq j s) [
            | inl e ↦
                ap (λ (i : ℕ). length (get_or (put ss s X o) i [])) e ∙ ap length row_put ∙ length-set (get_or ss s []) X o ∙ room.symbols s h
            | inr d ↦ ap length (get_or-set_other ss s j (set (get_or ss s []) X o) [] d) ∙ room.symbols j l
          ]

-- At first there are none.
abbrev pub no_row : List (Option ℕ)
no_row = replicate 64 None

no_steps : (j y : ℕ) → entry (replicate 255 no_row) j y ≡ None
no_steps j y =
    elim (cases_lt j 255) [
      | inl l ↦
          ap (λ (xs : List (Option ℕ)). get_or xs y None) (get_or-replicate 255 j no_row [] l)
          ∙ elim (cases_lt y 64) [ inl k ↦ get_or-replicate 64 y None None k | inr k ↦ get_or_past no_row y None (omega (arith, length-replicate {A = Option ℕ} 64 None)) ]
      | inr l ↦ ap (λ (xs : List (Option ℕ)). get_or xs y None) (get_or_past (replicate 255 no_row) j [] (omega (arith, length-replicate 255 no_row)))
    ]

no_step_leads : (o : Option ℕ) (t : ℕ) → o ≡ None → o ≡ Some t → ⊥
no_step_leads o t e f = cc

-- The states as the walk knows them.
pub known_length : (n : ℕ) (ws : List Row) → length (known_rows n ws) ≡ n
unfolding known_rows
known_length n ws = length_listed (λ k. record { state = k; row = row_items ws k }) n

pub state_is : (n : ℕ) (ws : List Row) (k : ℕ) → k < n → state_at (known_rows n ws) k ≡ k
unfolding known_rows state_at
state_is n ws k h = ap (λ (x : Known). x.state) (getD_listed (λ k. record { state = k; row = row_items ws k }) n k blank h)

pub row_is : (n : ℕ) (ws : List Row) (k : ℕ) → k < n → row_at (known_rows n ws) k ≡ row_items ws k
unfolding known_rows row_at
row_is n ws k h = ap (λ (x : Known). x.row) (getD_listed (λ k. record { state = k; row = row_items ws k }) n k blank h)

-- Rows that agree below n are known alike.
pub known_same : (n : ℕ) (ws vs : List Row) → ((k : ℕ) → k < n → row_items ws k ≡ row_items vs k) → known_rows n ws ≡ known_rows n vs
unfolding known_rows
known_same n ws vs h = listed_same _ _ n (λ k l. ap (λ (w : Items). record { state = k; row = w }) (h k l))

pub known_next : (n : ℕ) (ws : List Row) → known_rows (n + 1) ws ≡ known_rows n ws ++ record { state = n; row = row_items ws n } ∷ []
unfolding known_rows
known_next n ws = listed_more (λ k. record { state = k; row = row_items ws k }) n

pub begun : (g : Grammar) (w : Row) → FirstRow g (items w)
    → Come g (record { count = 1; rows = replicate 256 w; steps = replicate 255 no_row }) 0 0
unfolding known_rows listed
begun g w f =
    record {
      some = omega arith;
      few = omega arith;
      row_room = length-replicate 256 w;
      step_room = record {
        states = length-replicate 255 no_row;
        symbols = λ s h. ap length (get_or-replicate 255 s no_row [] h) ∙ length-replicate {A = Option ℕ} 64 None;
      };
      stepped = λ s X t e. absurd (no_step_leads (entry (replicate 255 no_row) s X) t (no_steps s X) e);
      untried = λ s Y h. no_steps s Y;
      walked = begin f;
    }

-- The byte of a step that leads below n.
pub leads_below : {o : Option ℕ} {n : ℕ} → ((t : ℕ) → o ≡ Some t → t < n) → step_byte o ≢ 255 → step_byte o < n
leads_below {o = None} f d = absurd (d refl)
leads_below {o = Some t} f d = f t refl

-- The ranges of the table so far.
pub ranged : {g : Grammar} {b : Building} {i X : ℕ} → Come g b i X → Ranged g (table_so_far g b)
ranged c = record { some_states = c.some; few_states = c.few; step_in = λ s X h l n. leads_below (c.stepped s X) n }

-- One try more, at the symbol X of the state i: the rows from n on and the step that is tried may change.
module _ (g : Grammar) (n : ℕ) (ws : List Row) (ss : List (List (Option ℕ))) (i X : ℕ) (come : Come g (record { count = n; rows = ws; steps = ss }) i X)
    (inside : i < n) (symbol : X < symbols g) (few : symbols g ≤ 64)
    (m : ℕ) (vs : List Row) (v : Option ℕ) (same : (k : ℕ) → k < n → row_items vs k ≡ row_items ws k) where
  state_in : i < 255
  state_in = omega (arith, come.few)

  symbol_in : X < 64
  symbol_in = omega arith

  pub known_on : known_rows n vs ≡ known_rows n ws
  known_on = known_same n vs ws same

  -- The walk so far is one over the changed table.
  carried : Walked g (built_table g m vs (put ss i X v)) (known_rows n vs) i X 0
  carried =
      subst (λ (ks : List Known). Walked g (built_table g m vs (put ss i X v)) ks i X 0) (sym known_on)
      (walked_alike (record { steps_are = steps_on; marks_are = marks_on }) come.walked)
    where
      steps_on : (j y : ℕ) → j < length (known_rows n ws) → y < symbols g → Tried i X j y
          → step_byte (entry (put ss i X v) (state_at (known_rows n ws) j) y) ≡ step_byte (entry ss (state_at (known_rows n ws) j) y)
      steps_on j y h l t =
          ap step_byte (entry_other ss come.step_room i X v state_in symbol_in (state_at (known_rows n ws) j) y (untried t))
        where
          e : state_at (known_rows n ws) j ≡ j
          e = state_is n ws j (omega (arith, known_length n ws))

          untried : Tried i X j y → state_at (known_rows n ws) j ≡ i → y ≢ X
          untried (inl t) p q = omega (arith, e)
          untried (inr t) p q = omega (arith, t.1)

      marks_on : (j q : ℕ) → j < length (known_rows n ws) → q < rule_count g → Tried i 0 j q
          → wanted_mark g (row_items vs (state_at (known_rows n ws) j)) q ≡ wanted_mark g (row_items ws (state_at (known_rows n ws) j)) q
      marks_on j q h l t =
          let k : j < n = omega (arith, known_length n ws) in
          let e = state_is n ws j k in
          ap (λ (w : Items). wanted_mark g w q) (same (state_at (known_rows n ws) j) (omega arith))

  pub here : At g (built_table g m vs (put ss i X v)) (known_rows n vs) i X (row_items vs i) i (step_byte v)
  here =
      record {
        come = carried;
        inside = omega (arith, known_length n vs);
        symbol = symbol;
        row = sym (row_is n vs i inside);
        state = sym (state_is n vs i inside);
        byte = sym (ap step_byte (entry_same ss come.step_room i X v state_in symbol_in));
      }

  -- The steps stay in range.
  stepped_on : n ≤ m → ((t : ℕ) → v ≡ Some t → t < m) → Stepped m (put ss i X v)
  stepped_on l h s Y t e =
      elim (cases_eq s i) [
        | inl p ↦
            elim (cases_eq Y X) [
              | inl q ↦
                  h t (sym (ap₂ (λ (j y : ℕ). entry (put ss i X v) j y) p q ∙ entry_same ss come.step_room i X v state_in symbol_in) ∙ e)
              | inr d ↦ omega (arith, come.stepped s Y t (sym (entry_other ss come.step_room i X v state_in symbol_in s Y (λ r. d)) ∙ e))
            ]
        | inr d ↦ omega (arith, come.stepped s Y t (sym (entry_other ss come.step_room i X v state_in symbol_in s Y (λ r. absurd (d r))) ∙ e))
      ]

  -- The steps behind it are as they were.
  untried_on : (s Y : ℕ) → (i < s) ⊎ ((i ≡ s) × (X + 1 ≤ Y)) → entry (put ss i X v) s Y ≡ None
  untried_on s Y (inl l) = entry_other ss come.step_room i X v state_in symbol_in s Y (λ p q. omega arith) ∙ come.untried s Y (inl l)
  untried_on s Y (inr (e, l)) = entry_other ss come.step_room i X v state_in symbol_in s Y (λ p q. omega arith) ∙ come.untried s Y (inr (e, omega arith))

  pub goes_on : n ≤ m → m ≤ 255 → length vs ≡ 256 → ((t : ℕ) → v ≡ Some t → t < m)
      → Walked g (built_table g m vs (put ss i X v)) (known_rows m vs) i (X + 1) 0
      → Come g (record { count = m; rows = vs; steps = put ss i X v }) i (X + 1)
  goes_on l h r e w =
      record {
        some = omega (arith, come.some);
        few = h;
        row_room = r;
        step_room = roomy_put ss come.step_room i X v state_in symbol_in;
        stepped = stepped_on l e;
        untried = untried_on;
        walked = w;
      }

some_below : {j t n : ℕ} → j < n → Some j ≡ Some t → t < n
some_below {j} {t} {n} h e = let d : j ≡ t = cc in omega arith

-- What a try comes to: no step, a step to a known state, or a step to a new one.
module _ (g : Grammar) (n : ℕ) (ws : List Row) (ss : List (List (Option ℕ))) (i X : ℕ) (come : Come g (record { count = n; rows = ws; steps = ss }) i X)
    (inside : i < n) (symbol : X < symbols g) (few : symbols g ≤ 64) where
  pub tried_none : NoStep g (row_items ws i) X → Come g (record { count = n; rows = ws; steps = ss }) i (X + 1)
  tried_none f =
      subst (λ (ts : List (List (Option ℕ))). Come g (record { count = n; rows = ws; steps = ts }) i (X + 1)) stays
      (goes_on g n ws ss i X come inside symbol few n ws None (λ k h. refl) (omega arith) come.few come.row_room (λ t e. cc)
      (at_none (here g n ws ss i X come inside symbol few n ws None (λ k h. refl)) f refl))
    where
      stays : put ss i X None ≡ ss
      stays =
          ap (λ (o : Option ℕ). put ss i X o) (sym (come.untried i X (inr (refl, omega arith))))
          ∙ ap (λ (xs : List (Option ℕ)). set ss i xs) (set-get_or (get_or ss i []) X None) ∙ set-get_or ss i []

  module _ (vs : List Row) (room : length vs ≡ 256) (same : (k : ℕ) → k < n → row_items vs k ≡ row_items ws k)
      (st : StepTo g (row_items vs i) X (row_items vs n)) where
    pub tried_met : (j : ℕ) → j < n → row_items vs j ≡ row_items vs n → Come g (record { count = n; rows = vs; steps = put ss i X (Some j) }) i (X + 1)
    tried_met j h e =
        let d : j ≢ 255 = omega (arith, come.few) in
        goes_on g n ws ss i X come inside symbol few n vs (Some j) same (omega arith) come.few room (λ t e. some_below h e)
        (at_met (here g n ws ss i X come inside symbol few n vs (Some j) same) st d j
        (record { within = omega (arith, known_length n vs); is = state_is n vs j h }) (row_items vs j) (sym (row_is n vs j h)) e)

    pub tried_new : n < 255 → ((k : ℕ) → k < n → row_items vs k ≡ row_items vs n → ⊥)
        → Come g (record { count = n + 1; rows = vs; steps = put ss i X (Some n) }) i (X + 1)
    tried_new h f =
        let d : n ≢ 255 = omega arith in
        goes_on g n ws ss i X come inside symbol few (n + 1) vs (Some n) same (omega arith) (omega arith) room (λ t e. some_below (omega arith) e)
        (subst (λ (ks : List Known). Walked g (built_table g (n + 1) vs (put ss i X (Some n))) ks i (X + 1) 0) (sym known_more)
        (at_new (here g n ws ss i X come inside symbol few (n + 1) vs (Some n) same) st d
        (λ j l e. let k : j < n = omega (arith, known_length n vs) in omega (arith, state_is n vs j k))
        (λ j l e. let k : j < n = omega (arith, known_length n vs) in f j k (sym (row_is n vs j k) ∙ e))))
      where
        known_more : known_rows (n + 1) vs ≡ known_rows n vs ++ record { state = n; row = row_items vs n } ∷ []
        known_more = known_next n vs

    -- With all 255 states used, a new row is one too many.
    pub too_many : n ≡ 255 → ((k : ℕ) → k < n → row_items vs k ≡ row_items vs n → ⊥) → ManyRows g (row_items vs)
    too_many e f =
        record {
          item_sets = λ k h. elim (cases_eq k n) [ inl p ↦ subst (λ (j : ℕ). ItemSet g (row_items vs j)) (sym p) last | inr p ↦ set_at k (omega arith) ];
          apart = apart_at;
        }
      where
        all : Kept g (table_so_far g (record { count = n; rows = ws; steps = ss })) (known_rows n ws)
        all = kept (ranged come) come.walked

        row_on : (k : ℕ) → k < n → row_at (known_rows n ws) k ≡ row_items vs k
        row_on k h = row_is n ws k h ∙ sym (same k h)

        set_at : (k : ℕ) → k < n → ItemSet g (row_items vs k)
        set_at k h = subst (ItemSet g) (row_on k h) (all.item_set k (omega (arith, known_length n ws)))

        last : ItemSet g (row_items vs n)
        last = ItemSet.step X (set_at i inside) st

        below_apart : (j k : ℕ) → j < n → k < n → row_items vs j ≡ row_items vs k → j ≡ k
        below_apart j k h l p =
            all.rows_apart j k (omega (arith, known_length n ws)) (omega (arith, known_length n ws)) (row_on j h ∙ p ∙ sym (row_on k l))

        apart_at : (j k : ℕ) → j < 256 → k < 256 → row_items vs j ≡ row_items vs k → j ≡ k
        apart_at j k h l p =
            elim (cases_eq j n) [
              | inl a ↦
                  elim (cases_eq k n) [
                    | inl c ↦ a ∙ sym c
                    | inr c ↦ absurd (f k (omega arith) (sym p ∙ ap (row_items vs) a))
                  ]
              | inr a ↦
                  elim (cases_eq k n) [
                    | inl c ↦ absurd (f j (omega arith) (p ∙ ap (row_items vs) c))
                    | inr c ↦ below_apart j k (omega arith) (omega arith) p
                  ]
            ]

-- The row in the place n is the step of the state i, once its kernel is completed there.
pub stepped_to : (g : Grammar) (b c : Building) (i X : ℕ) (w : Row) → i < b.count → Kernel g (row_items b.rows i) X (items w)
    → CompletedAt g b b.count w c → StepTo g (row_items c.rows i) X (row_items c.rows b.count)
stepped_to g b c i X w h k d =
    let p : i ≢ b.count = omega arith in
    subst (λ (v : Items). StepTo g v X (row_items c.rows b.count)) (sym (d.others_same i p))
    (step_row g (row_items b.rows i) X (items w) (row_items c.rows b.count) k.moves k.row d.completed)

-- A try that completed a kernel in the place behind the last state.
module _ (g : Grammar) (b d : Building) (i X : ℕ) (w : Row) (come : Come g b i X) (inside : i < b.count) (symbol : X < symbols g)
    (few : symbols g ≤ 64) (kernel : Kernel g (row_items b.rows i) X (items w)) (done : CompletedAt g b b.count w d) where
  same_below : (k : ℕ) → k < b.count → row_items d.rows k ≡ row_items b.rows k
  same_below k h = let p : k ≢ b.count = omega arith in done.others_same k p

  pub met_turn : (z : Building) (t : ℕ) → t < b.count → row_items d.rows t ≡ row_items d.rows b.count → z ≡ d
      → Come g (record { count = z.count; rows = z.rows; steps = put z.steps i X (Some t) }) i (X + 1) × (b.count ≤ z.count)
  met_turn z t h e p =
      subst (λ (y : Building). Come g (record { count = y.count; rows = y.rows; steps = put y.steps i X (Some t) }) i (X + 1) × (b.count ≤ y.count)) (sym p) (
        subst₂ (λ (n : ℕ) (ss : List (List (Option ℕ))). Come g (record { count = n; rows = d.rows; steps = put ss i X (Some t) }) i (X + 1))
            (sym done.count_same) (sym done.steps_same)
            (tried_met g b.count b.rows b.steps i X come inside symbol few d.rows (done.room_same ∙ come.row_room) same_below
            (stepped_to g b d i X w inside kernel done) t h e),
        omega (arith, done.count_same),
      )

  pub new_turn : (z : Building) (t : ℕ) → t ≡ b.count → t ≢ 255 → ((k : ℕ) → k < t → row_items d.rows k ≡ row_items d.rows b.count → ⊥)
      → z ≡ record { count = d.count + 1; rows = d.rows; steps = d.steps }
      → Come g (record { count = z.count; rows = z.rows; steps = put z.steps i X (Some t) }) i (X + 1) × (b.count ≤ z.count)
  new_turn z t q u f p =
      subst (λ (y : Building). Come g (record { count = y.count; rows = y.rows; steps = put y.steps i X (Some t) }) i (X + 1) × (b.count ≤ y.count)) (sym p) (
        subst₃ (λ (n : ℕ) (ss : List (List (Option ℕ))) (v : ℕ). Come g (record { count = n + 1; rows = d.rows; steps = put ss i X (Some v) }) i (X + 1))
            (sym done.count_same) (sym done.steps_same) (sym q)
            (tried_new g b.count b.rows b.steps i X come inside symbol few d.rows (done.room_same ∙ come.row_room) same_below
            (stepped_to g b d i X w inside kernel done) (omega (arith, come.few)) (λ k h. f k (omega arith))),
        omega (arith, done.count_same),
      )

  pub many_turn : b.count ≡ 255 → ((k : ℕ) → k < b.count → row_items d.rows k ≡ row_items d.rows b.count → ⊥) → Many g
  many_turn e f =
      ∣ (
        row_items d.rows,
        too_many g b.count b.rows b.steps i X come inside symbol few d.rows (done.room_same ∙ come.row_room) same_below
            (stepped_to g b d i X w inside kernel done) e f,
      ) ∣₁

-- All steps of the state i are tried, and its marks are those of its row: the next state.
pub expanded : (g : Grammar) (b : Building) (i X : ℕ) → Come g b i X → X ≡ symbols g → i < b.count → Come g b (i + 1) 0
expanded g b i X c e h =
    record {
      some = c.some;
      few = c.few;
      row_room = c.row_room;
      step_room = c.step_room;
      stepped = c.stepped;
      untried = λ s Y h. c.untried s Y (inl (elim h [ inl l ↦ omega arith | inr l ↦ omega (arith, l.0) ]));
      walked = (at_turn (marks (rule_count g) (omega arith)) refl (omega (arith, known_length b.count b.rows))).0;
    }
  where
    marks : (r : ℕ) → r ≤ rule_count g → Walked g (table_so_far g b) (known_rows b.count b.rows) i (symbols g) r
    marks zero l = subst (λ (k : ℕ). Walked g (table_so_far g b) (known_rows b.count b.rows) i k 0) e c.walked
    marks (suc r) l =
        mark (marks r (omega arith)) (omega (arith, known_length b.count b.rows)) (omega arith)
        (ap (λ (w : Items). wanted_mark g w r) (ap (row_items b.rows) (state_is b.count b.rows i h) ∙ sym (row_is b.count b.rows i h)))

-- All states are expanded: they match the item sets.
pub finished : (g : Grammar) (b : Building) → RightSides g → Come g b b.count 0 → Built g b.count b.rows b.steps
finished g b rs c =
    record {
      some = c.some;
      few = c.few;
      matched =
          matching rs (ranged c) (subst (λ (k : ℕ). Walked g (table_so_far g b) (known_rows b.count b.rows) k 0 0) (sym size) c.walked)
          (λ s h. (s, record { within = rw size h; is = state_is b.count b.rows s h }))
          (row_items b.rows)
          (λ j h.
          let l : j < b.count = rw (← size) h in
          ap (row_items b.rows) (state_is b.count b.rows j l) ∙ sym (row_is b.count b.rows j l));
      in_order = c.walked;
    }
  where
    size : length (known_rows b.count b.rows) ≡ b.count
    size = known_length b.count b.rows

-- As few states as there are leave no room for 256 item sets.
pub not_many : {g : Grammar} {n : ℕ} {ws : List Row} {ss : List (List (Option ℕ))} → Built g n ws ss → Many g → ⊥
not_many {n = n} {ws = ws} b m =
    ∥∥₁_elim m ⊥_prop (λ (f, many).
    let place : (k : ℕ) → k < 256 → (s : ℕ) × (s < n) × (row_items ws s ≡ f k) = λ k h. b.matched.onto (f k) (many.item_sets k h) in
    let few : 256 ≤ n =
    pigeons 256 n (λ k h. (place k h).0) (λ k h. (place k h).1)
    (λ j k h l e. many.apart j k h l (sym (place j h).2 ∙ rw e (place k l).2))
    in
    omega (arith, b.few))
