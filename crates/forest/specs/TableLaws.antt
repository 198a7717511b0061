-- The law of the look-up.
--   told_parts   what the cells tell is a symbol in the set of two places that do not fall
use Rattle.std.specs.Prelude.{◌≡◌, ℕ, ◌<◌, ◌≤◌, true, ◌&&◌, List, nat_le, nat_lt}
use borrow.Author.Tests.{ltb-true, leb-true}
use Rattle.std.proofs.lemmas.Bool.{and_parts}
use Rattle.rows.specs.Rows.{member}
use Rattle.rows.specs.declared.symbols.SymbolSet.{SymbolSet}
use Rattle.forest.specs.Tables.{cell, told}

pub told_parts : (cells : List (List SymbolSet)) (x i j : ℕ) → told cells x i j ≡ true → (j < 256) × (i ≤ j) × (member (cell cells i j) x ≡ true)
unfolding told
told_parts cells x i j h =
    let (a, b) = and_parts (nat_lt j 256) (nat_le i j && member (cell cells i j) x) h in
    let (c, d) = and_parts (nat_le i j) (member (cell cells i j) x) b in
    (ltb-true j 256 a, leb-true i j c, d)
