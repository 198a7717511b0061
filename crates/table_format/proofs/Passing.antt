-- Where the states match the LR(0) item sets, the walk passes.
use Rattle.std.proofs.Common.{◌≡◌, ℕ, zero, suc, ◌+◌, ◌<◌, ◌≤◌, ◌⊎◌, List, [], ◌∷◌, ◌++◌, length, sym, ap, ◌∙◌, subst, inl, inr, ⊎_elim, arith}
use mathlib.Core.HLevel.{⊥_prop}
use mathlib.Core.Logic.{∥∥₁_elim}
use native.Mathlib.Decide.{dec_lt}
use Rattle.parsing.specs.Grammar.{Grammar, rule_count}
use Rattle.table_format.specs.ItemSets.{Items, symbols, StepTo, first, RightSides}
use Rattle.table_format.specs.Tables.{Table, Ranged, Matches}
use Rattle.table_format.specs.Walks.{Known, state_at, row_at, byte_at, Knows, NewState}
use Rattle.table_format.specs.Walks.{Walked, begin, none, met, new, mark, turn, passes, Walk, all_right}
use Rattle.table_format.proofs.Rows.{completed_one, step_one}
use Rattle.table_format.proofs.KnownStates.{length_more, each, each_only, knows?}
use Rattle.table_format.proofs.Progress.{kept, known_few}
use Rattle.table_format.proofs.Matching.{reached}

-- A matching keeps the ranges, if the states are few enough.
pub matches_ranged : {g : Grammar} {t : Table} {rows : ℕ → Items} → t.states ≤ 255 → Matches g t rows → Ranged g t
matches_ranged {rows = rows} few m = record {
  some_states = omega (arith, (m.onto (rows 0) (first m.zero_first)).1);
  few_states = few;
  step_in = λ s X h x ne. ⊎_elim (λ a. absurd (ne a.0)) (λ a. a.0) (m.steps s X h x);
}

module _ {g : Grammar} {t : Table} {rows : ℕ → Items} (rs : RightSides g) (rg : Ranged g t) (m : Matches g t rows) where
  -- The rows of the known states are those of the matching.
  pub agrees : {ks : List Known} {i X r : ℕ} → Walked g t ks i X r → (j : ℕ) → j < length ks → row_at ks j ≡ rows (state_at ks j)
  agrees (begin {w = v} f) = each_only (λ s w. w ≡ rows s) (record { state = 0; row = v }) (completed_one {g = g} f m.zero_first)
  agrees (none w a x n e) = agrees w
  agrees (met p w a x s ne b) = agrees w
  agrees (new {ks = ks} {i = i} {X = X} {w = v} w a x s ne ns nr) =
      each ks (record { state = byte_at t ks i X; row = v }) (λ s w. w ≡ rows s) (agrees w)
      (⊎_elim
      (λ b. absurd (ne b.0))
      (λ b. step_one (subst (λ u. StepTo g u X v) (agrees w i a) s) b.1)
      (m.steps (state_at ks i) X ((kept rg w).state_in i a) x))
  agrees (mark w a l e) = agrees w
  agrees (turn w a) = agrees w

  -- The walk goes on, with one more known state or none.
  abbrev Onward : ℕ → ℕ → Type 0
  Onward i X = (ks : List Known) × Walked g t ks i X 0 × (i < length ks)

  -- A symbol, all symbols, all rules.
  module _ {ks : List Known} {i X : ℕ} (w : Walked g t ks i X 0) (h : i < length ks) (x : X < symbols g) where
    target : byte_at t ks i X < t.states → StepTo g (row_at ks i) X (rows (byte_at t ks i X))
        → Knows ks (byte_at t ks i X) ⊎ NewState ks (byte_at t ks i X) → Onward i (suc X)
    target l st (inl (j, k)) =
        let e : rows (byte_at t ks i X) ≡ row_at ks j = sym (agrees w j k.within ∙ ap rows k.is) in
        (ks, met j w h x (subst (StepTo g (row_at ks i) X) e st) (λ n. omega (arith, rg.few_states)) k, h)
    target l st (inr ns) = (
      ks ++ k ∷ [],
      new w h x st (λ n. omega (arith, rg.few_states)) ns
          (λ j p e. ns j p (m.one-to-one (state_at ks j) (byte_at t ks i X) ((kept rg w).state_in j p) l (sym (agrees w j p) ∙ e))),
      omega (arith, length_more ks k),
    )
      where
        k : Known
        k = record { state = byte_at t ks i X; row = rows (byte_at t ks i X) }

    try_symbol : Onward i (suc X)
    try_symbol =
        ⊎_elim
        (λ a. (ks, none w h x (rw (agrees w i h) a.1) a.0, h))
        (λ a. target a.0 (rw (agrees w i h) a.1) (knows? ks (byte_at t ks i X)))
        (m.steps (state_at ks i) X ((kept rg w).state_in i h) x)

  try_symbols : (n : ℕ) → n ≤ symbols g → {ks : List Known} {i : ℕ} → Walked g t ks i 0 0 → i < length ks → Onward i n
  try_symbols zero l {ks} w h = (ks, w, h)
  try_symbols (suc n) l w h = let (ls, v, k) = try_symbols n (omega arith) w h in try_symbol v k l

  try_rules : (n : ℕ) → n ≤ rule_count g → {ks : List Known} {i : ℕ} → Walked g t ks i (symbols g) 0 → i < length ks → Walked g t ks i (symbols g) n
  try_rules zero l w h = w
  try_rules (suc n) l {ks} {i} w h =
      let v = try_rules n (omega arith) w h in
      mark v h l (rw (agrees w i h) (m.marks (state_at ks i) n ((kept rg w).state_in i h) l))

  -- All states, one after another: n at most are left.
  try_states : (n : ℕ) {ks : List Known} {i : ℕ} → t.states ≤ i + n → Walked g t ks i 0 0 → i ≤ length ks
      → (ls : List Known) × Walked g t ls (length ls) 0 0
  try_states zero {ks} {i} l w h =
      let e : i ≡ length ks = omega (arith, known_few rg w) in
      (ks, rw e at w)
  try_states (suc n) {ks} {i} l w h =
      elim (dec_lt i (length ks)) [
        | yes k ↦
            let (ls, v, p) = try_symbols (symbols g) (omega arith) w k in
            try_states n (omega arith) (turn (try_rules (rule_count g) (omega arith) v p) p) p
        | no k ↦
            let e : i ≡ length ks = omega arith in
            (ks, rw e at w)
      ]

  pub matches_passes : Walk g t passes
  matches_passes =
      let (ks, w) = try_states t.states (omega arith) (begin m.zero_first) (omega arith) in
      all_right w
      (λ s h.
      elim (knows? ks s) [
        | inl k ↦ k
        | inr n ↦
            absurd (∥∥₁_elim (m.item_sets s h) ⊥_prop
            (λ i.
            let (j, l, e) = reached rs rg w i in
            n j l (m.one-to-one (state_at ks j) s ((kept rg w).state_in j l) h (sym (agrees w j l) ∙ e))))
      ])
