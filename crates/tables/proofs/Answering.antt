-- What the check answers.
use mathlib.Core.Bool.{beq}
use mir.Val.{bool_byte}
use Rattle.std.proofs.lemmas.Bool.{eqb-true, eqb-false}
use Rattle.std.proofs.lemmas.Nat.{mul-le, mul-add-lt}
use Rattle.std.specs.Prelude.{◌≡◌, ◌==◌, ℕ, ◌+◌, ◌*◌, ◌<◌, ◌≤◌, Bool, true, false, List, [], ◌∷◌, ◌++◌, length, None, Option, ◌≢◌}
use Rattle.std.proofs.Common.{sym, ap, subst, arith}
use Rattle.std.proofs.lemmas.List.{length_push}
use Rattle.parsing.specs.Grammar.{Grammar, rule_count}
use Rattle.states.specs.Refusals.{outcome}
use Rattle.states.specs.declared.fault.TableFault.{TableFault}
use Rattle.states.specs.declared.fault.TableFault.TheVariants.{NeverReached}
use Rattle.rows.specs.declared.row.Row.{Row}
use Rattle.table_format.specs.ItemSets.{Items, RightSides, FirstRow, NoStep, StepTo, symbols}
use Rattle.table_format.specs.Tables.{Table}
use Rattle.table_format.specs.Walks.{Known, state_at, Knows, Walked, begin, passes, refuses, all_right, never_reached}
use Rattle.table_format.specs.Sheets.{table_of, marks_at, states_told, symbols_told, rules_told}
use Rattle.table_format.specs.Breaches.{Checked, by_walk}
use Rattle.table_format.proofs.Cleaning.{form_clean}
use Rattle.table_format.proofs.Checks.{merely_passes}
use Rattle.table_format.proofs.Matching.{matching}
use Rattle.table_format.proofs.Progress.{kept, known_few}
use Rattle.table_format.proofs.Sheets.{form_ranged, states_of}
use Rattle.tables.specs.declared.header.Header.{Header}
use Rattle.tables.specs.Heads.{Laid, Formed}
use Rattle.tables.specs.declared.finding.Finding.{Finding}
use Rattle.tables.specs.Faults.{Faulty, Refused, Found}
use Rattle.tables.specs.Trying.{InNone, RowOf, Halts}
use Rattle.tables.specs.declared.known.KnownStates.{KnownStates}
use Rattle.tables.specs.Lists.{listed, Apart, RowsBy, Unreached, row_in}
use Rattle.tables.specs.Passing.{Passed}

pub laid : {g : Grammar} {b : List ℕ} {h : Header} → Formed g b h → Laid b h
laid f = record { told = f.told; counted = f.form.counted }

pub states_are : {g : Grammar} {b : List ℕ} {h : Header} → Formed g b h → (table_of b).states ≡ h.states
states_are {b = b} f = omega (arith, states_of b, f.told.states_are)

-- What a fault says.
refused : {g : Grammar} {b : List ℕ} {f : TableFault} → RightSides g → Checked g b (outcome f) → Refused g b f
refused rs c = record {
  checked = c;
  never = λ x. other (merely_passes rs c x.0 x.1);
}
  where
    other : {n p q : ℕ} → refuses n p q ≢ passes
    other e = let z : ◌≡◌ {A = ℕ} 0 1 = cc in omega arith

pub form_found : {g : Grammar} {b : List ℕ} {f : TableFault} → RightSides g → Faulty g b f → InNone f → Found g b (record { fault = f; row = None })
form_found {g} {b} {f} rs c n = record {
  refused = refused {f = f} rs c;
  row = subst (λ (o : Option ℕ). RowOf g (table_of b) o None) (sym n) tt;
}

pub walk_found : {g : Grammar} {b : List ℕ} {h : Header} {e : Finding} → RightSides g → Formed g b h → Halts g (table_of b) e → Found g b e
walk_found {e = e} rs d w = record { refused = refused {f = e.fault} rs (by_walk (form_clean d.form) w.ends); row = w.row }

-- The mark of a sheet that has the form.
pub mark_low : {g : Grammar} {b : List ℕ} {h : Header} → Formed g b h → (s r : ℕ) → s < h.states → r < rule_count g → (table_of b).mark s r ≤ 1
unfolding table_of
mark_low {b = b} f s r l x =
    f.form.mark_bytes (marks_at (states_told b) (symbols_told b) + (s * rules_told b + r)) (omega arith)
    (omega (arith, mul-add-lt s (rules_told b) r (states_told b) (omega (arith, f.told.states_are)) (omega (arith, f.form.same_rules))))

-- A mark byte n that is tested for 1, and a mark q that is wanted.
pub mark_met : (n : ℕ) (p q : Bool) → n ≤ 1 → p ≡ (n == 1) → beq p q ≡ true → n ≡ bool_byte q
mark_met n true true l e h = eqb-true n 1 (sym e)
mark_met n true false l e h = cc
mark_met n false true l e h = cc
mark_met n false false l e h = let d : n ≢ 1 = eqb-false n 1 (sym e) in omega (arith, d)

pub mark_missed : (n : ℕ) (p q : Bool) → p ≡ (n == 1) → beq p q ≡ false → n ≢ bool_byte q
mark_missed n true true e h m = cc
mark_missed n true false e h m = let d : n ≡ 1 = eqb-true n 1 (sym e) in omega (arith, d, m)
mark_missed n false true e h m = eqb-false n 1 (sym e) m
mark_missed n false false e h m = cc

-- Along the walk.
module _ {g : Grammar} {b : List ℕ} {h : Header} (d : Formed g b h) {ks : List Known} {i X r : ℕ} (w : Walked g (table_of b) ks i X r) where
  pub state_below : (j : ℕ) → j < length ks → (s : ℕ) → s ≡ state_at ks j → s < h.states
  state_below j l s e = omega (arith, (kept (form_ranged d.form) w).state_in j l, states_are d)

  pub few_known : length ks ≤ h.states
  few_known = omega (arith, known_few (form_ranged d.form) w, states_are d)

  pub apart : Apart ks
  apart =
      let k = kept (form_ranged d.form) w in
      record {
        some = k.some;
        below = λ j l. omega (arith, k.state_in j l, (form_ranged d.form).few_states);
        apart = k.states_apart;
      }

-- Where the walk has tried every known state.
module _ {g : Grammar} {b : List ℕ} {h : Header} (d : Formed g b h) {ks : List Known} (w : Walked g (table_of b) ks (length ks) 0 0) where
  pub unreached : (s : ℕ) → Unreached ks h.states s → Halts g (table_of b) (record { fault = NeverReached s; row = None })
  unreached s u = record { ends = never_reached s w (omega (arith, u.below, states_are d)) u.new u.before; row = tt }

  module _ (all : (s : ℕ) → s < h.states → Knows ks s) where
    every : (s : ℕ) → s < (table_of b).states → Knows ks s
    every s l = all s (omega (arith, states_are d))

    pub walk_passes : Checked g b passes
    walk_passes = by_walk (form_clean d.form) (all_right w every)

    pub passed : RightSides g → (ws : List Row) → RowsBy ks ws (length ks) → Passed g b h ws
    passed rs ws f = record { formed = d; matches = matching rs (form_ranged d.form) w every (row_in ws) f }

-- The walk as the code takes it: over the known states that it keeps.
pub begins : (g : Grammar) {t : Table} (ls : List Known) (w : Items) → ls ≡ record { state = 0; row = w } ∷ [] → FirstRow g w
    → Walked g t ls 0 0 0 × (0 ≤ length ls)
begins g {t} ls w e f = (subst (λ xs. Walked g t xs 0 0 0) (sym e) (begin f), omega arith)

module _ {g : Grammar} {t : Table} {i X : ℕ} where
  pub stays : (ks ms : KnownStates) → ms ≡ ks → Walked g t (listed ks) i X 0 → i < length (listed ks)
      → Walked g t (listed ms) i X 0 × (i < length (listed ms))
  stays ks ms e w h = subst (λ (ns : KnownStates). Walked g t (listed ns) i X 0 × (i < length (listed ns))) (sym e) (w, h)

  pub grows : (ks ms ns : KnownStates) (k : Known) → ns ≡ ms → listed ms ≡ listed ks ++ k ∷ [] → Walked g t (listed ks ++ k ∷ []) i X 0
      → i < length (listed ks) → Walked g t (listed ns) i X 0 × (i < length (listed ns))
  grows ks ms ns k e f w h =
      stays ms ns e (subst (λ xs. Walked g t xs i X 0) (sym f) w) (omega (arith, length_push (listed ks) k, ap length f))

pub room_for : {g : Grammar} {b : List ℕ} {h : Header} → Formed g b h → (ks : List Known) (k : Known) {i X r : ℕ}
    → Walked g (table_of b) (ks ++ k ∷ []) i X r → length ks < 255
room_for d ks k w = omega (arith, few_known d w, length_push ks k, d.told.states_are, d.form.few_states)

-- A sheet with the form is not longer than the room for it.
pub short : {g : Grammar} {b : List ℕ} {h : Header} → symbols g ≤ 64 → rule_count g ≤ 64 → Formed g b h → length b ≤ 32652
short {b = b} few_symbols few_rules d =
    omega (
      arith,
      d.form.counted,
      mul-le (states_told b) (symbols_told b) 255 64 d.form.few_states (omega (arith, d.form.same_symbols)),
      mul-le (states_told b) (rules_told b) 255 64 d.form.few_states (omega (arith, d.form.same_rules)),
    )

-- What passed is kept over a copy of the bytes.
pub passed_over : {g : Grammar} {b c : List ℕ} {h : Header} {ws : List Row} → c ≡ b → Passed g b h ws → Passed g c h ws
passed_over {g} {h = h} {ws = ws} e p = subst (λ xs. Passed g xs h ws) (sym e) p

-- The symbol of a step, as the row is asked for it.
pub no_step_by : (g : Grammar) (v : Items) (x X : ℕ) → x ≡ X → NoStep g v x → NoStep g v X
no_step_by g v x X e n = subst (NoStep g v) e n

pub step_by : {g : Grammar} {v w : Items} {x X : ℕ} → x ≡ X → StepTo g v x w → StepTo g v X w
step_by {g} {v} {w} e s = subst (λ y. StepTo g v y w) e s
