-- The bytes of the table sheet of built states.
use Rattle.std.proofs.Common.{◌≡◌, ℕ, ◌-◌, ◌*◌, ◌/◌, ◌%◌, ◌<◌, ◌≤◌, Bool, ◌&&◌, ltb, List, ◌++◌, length, get_or, drop, refl, ap, ◌∙◌, ap₂, arith}
use mathlib.Core.Logic.{∥∥₁_elim}
use native.Mathlib.Bridge.{le_prop}
use mir.Val.{bool_byte}
use Rattle.std.proofs.lemmas.Nat.{mul-le}
use Rattle.std.proofs.lemmas.List.{take_all, take-append-le, ext_get_or}
use Rattle.std.proofs.lemmas.Slice.{drop-append-drop}
use Rattle.grammar.specs.Writing.{Writes}
use Rattle.parsing.specs.Grammar.{rule_count, rhs}
use Rattle.grammar.specs.Meaning.{meaning}
use Rattle.grammar.proofs.Held.{held}
use Rattle.table_format.specs.ItemSets.{symbols}
use Rattle.table_format.specs.Tables.{Matches, wanted_mark}
use Rattle.table_format.specs.Walks.{passes}
use Rattle.table_format.specs.Sheets.{marks_at, ends_at, header_bytes}
use Rattle.table_format.specs.Breaches.{Checked}
use Rattle.table_format.proofs.Grids.{Cell, cell}
use Rattle.table_format.proofs.Sheets.{length_table_bytes, header_byte_at, step_byte_at, mark_byte_at}
use Rattle.table_format.proofs.Turns.{wanted}
use Rattle.table_format.proofs.Checks.{written_passes}
use Rattle.table_format.proofs.Props.{matches_prop}
use Rattle.built_states.specs.Built.{row_items, entry, step_byte}
use Rattle.built_states.specs.Meaning.{table}
use Rattle.built_states.specs.Writing.{sheet}
use Rattle.built_states.specs.declared.built.BuiltStates.{BuiltStates}
use Rattle.rows.proofs.Grammars.{few_symbols, right_sides}

module _ (b : BuiltStates) where
  pub few_states : b.building.count ≤ 255
  few_states = ∥∥₁_elim b.built le_prop (λ x. x.few)

  pub matches : Matches (meaning b.grammar) (table b) (row_items b.building.rows)
  matches = ∥∥₁_elim b.built (matches_prop (meaning b.grammar) (table b) (row_items b.building.rows)) (λ x. x.matched)

  pub rules_few : rule_count (meaning b.grammar) ≤ 64
  rules_few = omega (arith, (held b.grammar).kept.well_formed.few_rules)

  pub sheet_length : length (sheet b) ≡ ends_at b.building.count (symbols (meaning b.grammar)) (rule_count (meaning b.grammar))
  unfolding sheet
  sheet_length = length_table_bytes (meaning b.grammar) (table b)

  pub marks_few : b.building.count * symbols (meaning b.grammar) ≤ 16320
  marks_few = mul-le b.building.count (symbols (meaning b.grammar)) 255 64 few_states (few_symbols b.grammar)

  pub ends_few : b.building.count * rule_count (meaning b.grammar) ≤ 16320
  ends_few = mul-le b.building.count (rule_count (meaning b.grammar)) 255 64 few_states rules_few

  -- The bytes as code reads them: by the offset p, over n symbols or n rules.
  pub header_read : (p : ℕ) (xs : List ℕ) → p < 12
      → xs ≡ header_bytes b.building.count (symbols (meaning b.grammar)) (rule_count (meaning b.grammar)) → get_or xs p 0 ≡ get_or (sheet b) p 0
  unfolding sheet
  header_read p xs h e = ap (λ (ys : List ℕ). get_or ys p 0) e ∙ header_byte_at (meaning b.grammar) (table b) p h

  module _ (p n : ℕ) (low : 12 ≤ p) (high : p < marks_at b.building.count (symbols (meaning b.grammar))) (symbols_are : n ≡ symbols (meaning b.grammar)) where
    pub step_read_at : step_byte (entry b.building.steps ((p - 12) / n) ((p - 12) % n)) ≡ get_or (sheet b) p 0
    unfolding sheet
    step_read_at =
        ap (λ (k : ℕ). step_byte (entry b.building.steps ((p - 12) / k) ((p - 12) % k))) symbols_are
        ∙ step_byte_at (meaning b.grammar) (table b) p low high

  module _ (p m n : ℕ) (low : m ≤ p) (high : p < length (sheet b)) (marks_are : m ≡ marks_at b.building.count (symbols (meaning b.grammar)))
      (rules_are : n ≡ rule_count (meaning b.grammar)) where
    pub mark_cell : Cell b.building.count n (p - m)
    mark_cell = cell b.building.count n (p - m) (rw rules_are (omega (arith, sheet_length)))

    pub mark_place : (p - m) / n < 256
    mark_place = omega (arith, mark_cell.row_in, few_states)

    pub mark_read_at : (q : Bool) → q ≡ (ltb ((p - m) % n) (rule_count (meaning b.grammar))
        && row_items b.building.rows ((p - m) / n) ((p - m) % n) (length (rhs (meaning b.grammar) ((p - m) % n))))
        → bool_byte q ≡ get_or (sheet b) p 0
    unfolding sheet
    mark_read_at q e =
        wanted (meaning b.grammar) (row_items b.building.rows ((p - m) / n)) ((p - m) % n) ((p - m) % n) q refl (omega (arith, mark_cell.column_in)) e
        ∙ ap₂ (λ (o k : ℕ). wanted_mark (meaning b.grammar) (row_items b.building.rows ((p - o) / k)) ((p - o) % k)) marks_are rules_are
        ∙ mark_byte_at (meaning b.grammar) (table b) p (omega arith) (omega (arith, sheet_length))

  pub sheet_passes : Checked (meaning b.grammar) (sheet b) passes
  unfolding sheet
  sheet_passes = written_passes (right_sides b.grammar) few_states matches

-- A front that has the bytes xs, before what was there.
pub written : (xs old front : List ℕ) (n : ℕ) → n ≡ length xs → n ≤ length old → length front ≡ n
    → ((k : ℕ) → k < n → get_or front k 0 ≡ get_or xs k 0) → Writes xs old (front ++ drop n old) n
written xs old front n e h l f = record {
  need = e;
  room = h;
  front =
      take-append-le n front (drop n old) (omega arith) ∙ take_all n front (omega arith)
      ∙ ext_get_or 0 front xs (l ∙ e) (λ k i. f k (omega arith));
  past = drop-append-drop n old front n (omega arith) l;
}
