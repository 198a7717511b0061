use Rattle.std.proofs.Common.{◌≡◌, ℕ, ◌<◌, ◌≢◌, length, get_or, MatchBool, rules}
use Rattle.rows.specs.Rows.{items}
use Rattle.tables.specs.declared.known.Known.{Known}
use Rattle.tables.proofs.Lists.{row_found}
use Rattle.tables.proofs.known.KnownStates.knows_row.Goals as goal

pub returns : goal.returns
returns c =
    let xs = c.args.self.now.list.items in
    let m : MatchBool c.any.result ((j : ℕ) × (j < length xs) × ((d : Known) → items (get_or xs j d).row ≡ items c.args.row.now)) ((j : ℕ) → j < length xs → (d : Known) → items (get_or xs j d).row ≢ items c.args.row.now) = search rules in
    row_found c.args.self.now (items c.args.row.now) c.any.result m
