use Rattle.std.proofs.Common.{ℕ, ◌<◌, ◌≤◌, List, arith, MatchOption, None, Some, Option, rules}
use Rattle.std.proofs.lemmas.Iterator.{first_from_Range}
use Rattle.table_format.specs.Walks.{Known, Knows, NewState}
use Rattle.tables.specs.Lists.{listed, Unreached}
use Rattle.tables.proofs.Lists.{found, not_found}
use Rattle.tables.proofs.known.KnownStates.unreached.Goals as goal

lowest : (ks : List Known) (M : ℕ) (o : Option ℕ)
    → MatchOption o ((s : ℕ) → 0 ≤ s → s < M → Knows ks s) (λ s. (0 ≤ s) × (s < M) × NewState ks s × ((u : ℕ) → 0 ≤ u → u < s → Knows ks u))
    → MatchOption o ((s : ℕ) → s < M → Knows ks s) (λ s. Unreached ks M s)
lowest ks M None f = λ s h. f s (omega arith) h
lowest ks M (Some s) f = record { below = f.1; new = f.2; before = λ u h. f.3 u (omega arith) h }

pub returns : goal.returns
returns c =
    let ks = listed c.args.self.now in
    lowest ks c.args.states c.find.result
    (first_from_Range _ _ _ c.find.result (NewState ks) (Knows ks) c.find.ensures.ran (λ x q h. search (rules, not_found)) (λ x q h. (search rules, search (rules, found))))
