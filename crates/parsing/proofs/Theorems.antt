-- The theorems, as they are stated.
use Rattle.parsing.specs.Statements.{Productivity, Soundness, Entering, Completeness, Judgement, Viability, ViablePrefix}
use Rattle.parsing.specs.Statements.{Stability, Forest, Leastness, RowsByBits, Witness}
use Rattle.parsing.proofs.Productivity.{productive?}
use Rattle.parsing.proofs.States.{entering}
use Rattle.parsing.proofs.Soundness.{sound, linked_forward, linked_place}
use Rattle.parsing.proofs.Completeness.{complete}
use Rattle.parsing.proofs.Judge.{start_state, judge}
use Rattle.parsing.proofs.Viability.{viability, viable_prefix}
use Rattle.parsing.proofs.Prefix.{linked_prefix, live_prefix}
use Rattle.parsing.proofs.Forest.{forest_nodes, forest_alternatives}
use Rattle.parsing.proofs.Least.{linked_least, linked_saturated}
use Rattle.parsing.proofs.Rows.{rows_by_bits}
use Rattle.parsing.proofs.Example.{lawful_exists}

pub productivity : Productivity
productivity = productive?

pub soundness : Soundness
soundness src law ws s j b i k = let (X, e, d) = sound law k in (X, e, d, linked_forward k, linked_place k)

pub entering_symbol : Entering
entering_symbol src law b c X Y s = entering law

pub completeness : Completeness
completeness src law ws b i j r d X l h n x = complete law x l h n

pub judgement : Judgement
judgement src wf law = let (s, e) = start_state wf law in (s, e, judge wf law s e)

pub viable : Viability
viable src wf law = viability wf law

pub viable_prefixes : ViablePrefix
viable_prefixes src wf law ws = viable_prefix wf law

pub stability : Stability
stability src ws vs = (linked_prefix src ws vs, live_prefix src ws vs)

pub forest : Forest
forest g wf ws s = ((λ X i j. forest_nodes wf X i j s), λ r cs. forest_alternatives wf r cs s)

pub leastness : Leastness
leastness src ws = (linked_saturated src ws, λ K n sat s j b i h k. linked_least n sat k h)

pub rows_told : RowsByBits
rows_told = rows_by_bits

pub witness : Witness
witness = lawful_exists
