use Rattle.std.proofs.Common.{◌≡◌, ℕ, ◌<◌, ◌≢◌, length, get_or, MatchOption, rules}
use Rattle.tables.specs.declared.known.Known.{Known}
use Rattle.tables.proofs.Lists.{state_found}
use Rattle.tables.proofs.known.KnownStates.place_of.Goals as goal

pub returns : goal.returns
returns c =
    let xs = c.args.self.now.list.items in
    let m : MatchOption c.position.result ((j : ℕ) → j < length xs → (d : Known) → (get_or xs j d).state ≢ c.args.state) (λ j. (j < length xs) × ((d : Known) → (get_or xs j d).state ≡ c.args.state)) = search rules in
    state_found c.args.self.now c.args.state c.position.result m
