-- Built states are numbered as the walk meets them, so there is one way to build them.
use Rattle.std.proofs.Common.{◌≡◌, ℕ, ◌<◌, length, sym, refl, ◌∙◌, arith}
use Rattle.grammar_format.specs.Fields.{listed}
use Rattle.grammar_format.proofs.Listed.{length_listed}
use Rattle.table_format.specs.ItemSets.{RightSides}
use Rattle.table_format.proofs.Counting.{rows_each_once, each_once_length}
use Rattle.table_format.proofs.Once.{walked_same, matched_same}
use Rattle.rows.specs.declared.row.Row.{Row}
use Rattle.built_states.specs.Built.{row_items}
use Rattle.built_states.specs.Once.{OneBuilding}
use Rattle.built_states.proofs.Growing.{known_length, row_is}

pub one_building : OneBuilding
one_building g m n vs ws rs ss right b c =
    let count : m ≡ n =
    omega (arith, each_once_length b.matched (listed (row_items ws) n) (rows_each_once c.matched), length_listed (row_items ws) n)
    in
    let s = walked_same b.in_order c.in_order count refl refl in
    let same : (k : ℕ) → k < n → row_items vs k ≡ row_items ws k =
    λ k h.
    sym (row_is m vs k (omega arith)) ∙ s.rows k (omega (arith, known_length m vs)) ∙ row_is n ws k h
    in
    matched_same b.matched c.matched count same
