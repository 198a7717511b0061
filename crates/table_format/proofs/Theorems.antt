-- The theorems, as they are stated.
use Rattle.std.proofs.Common.{subst}
use Rattle.table_format.specs.Walks.{Walk}
use Rattle.table_format.specs.Breaches.{Checked}
use Rattle.table_format.specs.Statements.{Exactness, Determinacy, Lawfulness, OneSource, Counting, SheetExactness, SheetDeterminacy}
use Rattle.table_format.specs.Statements.{Writing, Reading, Witness}
use Rattle.table_format.proofs.Determined.{walk_one}
use Rattle.table_format.proofs.Matching.{passed_matches}
use Rattle.table_format.proofs.Passing.{matches_ranged, matches_passes}
use Rattle.table_format.proofs.Sources.{lawful, bounded}
use Rattle.table_format.proofs.Once.{source_one}
use Rattle.table_format.proofs.Counting.{rows_each_once, each_once_length}
use Rattle.table_format.proofs.Sheets.{table_of_bytes, table_bytes_of, table_bytes_below}
use Rattle.table_format.proofs.Checks.{checked_one, checked_matches, merely_passes, matches_marks, written_passes}
use Rattle.table_format.proofs.Example.{right_sides, one_passes}

pub exactness : Exactness
exactness g t rs rg o w = (
  λ e. passed_matches rs rg (subst (Walk g t) e w),
  λ x. walk_one rg w (matches_passes rs rg x.1),
)

pub determinacy : Determinacy
determinacy g t rg o p = walk_one rg

pub lawfulness : Lawfulness
lawfulness g t rows rs few m = (lawful rs few m, bounded g t rows)

pub one_source : OneSource
one_source g t rows others = source_one

pub counting : Counting
counting g t rows m = (rows_each_once m, each_once_length m)

pub sheet_exactness : SheetExactness
sheet_exactness g rs b o c = (
  λ e. let (f, m) = checked_matches rs (subst (Checked g b) e c) in (f, ∣ m ∣₁),
  λ x. merely_passes rs c x.0 x.1,
)

pub sheet_determinacy : SheetDeterminacy
sheet_determinacy g b o p = checked_one

pub writing : Writing
writing g rs few_symbols few_rules t rows few m = (
  written_passes rs few m,
  table_of_bytes g t,
  table_bytes_below few_symbols few_rules (matches_ranged few m) (matches_marks m),
)

pub reading : Reading
reading g b s f = table_bytes_of f s

pub witness : Witness
witness = (right_sides, one_passes)
